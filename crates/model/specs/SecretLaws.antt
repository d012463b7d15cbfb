-- What is proved of worlds and runs that differ in the characters of one password alone.
use Rattle.std.specs.Prelude.{◌≡◌, ◌↔◌, ℕ, true, List, []}
use Rattle.model.specs.declared.FullNodeId.{FullNodeId}
use Rattle.model.specs.declared.queries.Query.{Query}
use Rattle.model.specs.World.{World}
use Rattle.model.specs.Update.{UpdateData, Fault, Stands, IsAccepted}
use Rattle.model.specs.Events.{Event}
use Rattle.model.specs.TextRuns.{is_password}
use Rattle.model.specs.FlatText.{flat_text, words_in}
use Rattle.model.specs.Queries.{answer_of}
use Rattle.model.specs.Run.{CommandData, ReplyData, Does, WantAlike, Runs}
use Rattle.model.specs.Outline.{outline}
use Rattle.model.specs.Shape.{EqualShape, AreAlikeWorlds}
use Rattle.model.specs.AlikeRuns.{AreAlikeUpdates, AreAlikeCommands, KeepsSecret, ReplyAlike, told_openly, RunsAlike}

-- being alike is symmetric
abbrev pub AlikeIsMutual : Type 0
AlikeIsMutual = (p : FullNodeId) (w v : World) → AreAlikeWorlds p w v → AreAlikeWorlds p v w

-- in worlds of equal shape a query has the same answer, if that reveals nothing of the secret
abbrev pub ShapeKeepsAnswers : Type 0
ShapeKeepsAnswers = (p : FullNodeId) (w v : World) → EqualShape p w v → (q : Query) → KeepsSecret p w q → answer_of w q ≡ answer_of v q

-- alike updates of alike worlds break the same rules
abbrev pub AlikeUpdatesFailAlike : Type 0
AlikeUpdatesFailAlike =
    (p : FullNodeId) (w v : World) (u x : UpdateData) → AreAlikeWorlds p w v → AreAlikeUpdates p w u x → (f : Fault)
    → Stands w u f ↔ Stands v x f

-- if they are accepted they leave worlds with the same outline: these differ in values and lengths of characters alone
abbrev pub AlikeUpdatesLeaveOneOutline : Type 0
AlikeUpdatesLeaveOneOutline =
    (p : FullNodeId) (w v next other : World) (u x : UpdateData) → AreAlikeWorlds p w v → AreAlikeUpdates p w u x → IsAccepted w u next
    → IsAccepted v x other → outline next ≡ outline other

-- no word start is kept in the text of a password, whatever word starts were sent
abbrev pub PasswordsHideWords : Type 0
PasswordsHideWords = (w : World) (root : FullNodeId) → is_password w root ≡ true → (r : ℕ) → words_in (flat_text w root) r ≡ []

-- alike commands of alike worlds that leave alike worlds have alike replies and report the same openly
abbrev pub CommandsKeepSecret : Type 0
CommandsKeepSecret =
    (p : FullNodeId) (w next v other : World) (c d : CommandData) (told heard : List Event) (r s : ReplyData) → AreAlikeWorlds p w v
    → AreAlikeCommands p w c d → WantAlike r s →
    Does w c next told r → Does v d other heard s → AreAlikeWorlds p next other
    → ReplyAlike p w c r s × (told_openly p told ≡ told_openly p heard)

-- and so are alike runs
abbrev pub RunsKeepSecret : Type 0
RunsKeepSecret =
    (w v : World) (cs : List CommandData) (told : List Event) (rs : List ReplyData) → Runs w cs v told rs → RunsAlike w cs told rs
