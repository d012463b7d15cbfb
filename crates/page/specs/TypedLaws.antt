-- A page doesn't depend on what is typed into a password, but for what tells when it was typed.
use Rattle.std.specs.Prelude.{◌≡◌, ◌≤◌, ℕ, List, map, Option, Some, None, Ok, ⊤}
use Rattle.std.specs.List.{AllZip, FoldsTo}
use Rattle.atree_script.specs.Playing.{Turn, Begun, FirstRefused, Ran, Asked, Printed}
use Rattle.model.specs.AlikeRuns.{difference_of}
use Rattle.model.specs.declared.FullNodeId.{FullNodeId}
use Rattle.model.specs.Events.{Event}
use Rattle.model.specs.Forest.{IsFormed}
use Rattle.model.specs.World.{World}
use Rattle.session.specs.Replied.{IsStep}
use Rattle.session.specs.declared.commands.Command.{Command}
use Rattle.session.specs.declared.commands.Command.TheVariants as command
use Rattle.session.specs.declared.commands.Reply.{Reply}
use Rattle.session.specs.declared.commands.Reply.TheVariants as reply
use Rattle.tree_changes.specs.declared.error.UpdateError.{UpdateError}
use Rattle.page_states.specs.ShownLaws.{MayDiffer}
use Rattle.page_states.specs.WrittenLaws.{HaveSame, KeepAlike}
use Rattle.page.specs.declared.sections.Summary.{Summary}
use Rattle.page.specs.declared.sections.Titled.{Titled}
use Rattle.page.specs.declared.stops.Ending.{Ending}
use Rattle.page.specs.Endings.{told_text}
use Rattle.page.specs.Reports.{Bytes}
use Rattle.page.specs.Runs.{WritesPage}
use Rattle.page.specs.Shown.{Pages, Shown}
use Rattle.page.specs.States.{stop_text}
use Rattle.page.specs.Turns.{ShowsTaken, TurnTaken}

-- ---- turns that differ in what is typed

-- the same command, or two updates
abbrev pub IsSameKind : Command → Command → Type 0
IsSameKind (command.Update u) (command.Update other) = ⊤
IsSameKind c d = c ≡ d

-- why a reply refuses a command, if it does
abbrev pub refusal_of : Reply → Option UpdateError
refusal_of (reply.Refused why) = Some why
refusal_of r = None

-- Where neither command is refused, or both are for the same reason, the same nodes are reported, and the same of each: that it is added,
-- updated or removed, or that it gets or loses the focus.
abbrev pub ReportsAlike : World → Command → World → Command → Type 0
ReportsAlike old c former d =
    (new later : World) (told heard : List Event) (r s : Reply) → IsStep old c new told (Ok r) → IsStep former d later heard (Ok s)
    → refusal_of r ≡ refusal_of s → map difference_of told ≡ map difference_of heard

-- two steps between worlds that differ at most in what is typed into this password
pub record StepAlike (p : FullNodeId) (old : World) (c : Command) (new former : World) (d : Command) (later : World) : Type 0 where
  pub kind : IsSameKind c d
  pub formed : IsFormed old
  pub before : MayDiffer p old former
  pub formed_after : IsFormed new
  pub after : MayDiffer p new later
  pub reports : ReportsAlike old c former d

abbrev pub TurnAlike : FullNodeId → Turn → Turn → Type 0
TurnAlike p (Begun comment w) (Begun other v) = (comment ≡ other) × IsFormed w × MayDiffer p w v
TurnAlike p (FirstRefused comment line why) (FirstRefused other at reason) = (comment ≡ other) × (line ≡ at)
TurnAlike p (Ran comment line old c new) (Ran other at former d later) =
    (comment ≡ other) × (line ≡ at) × StepAlike p old c new former d later
TurnAlike p (Asked old q new) (Asked former r later) = ⊤
TurnAlike p (Printed w) (Printed v) = ⊤
TurnAlike p turn other = ⊥

-- ---- pages

-- what is read of a state's title and summary
abbrev pub titled_text : Titled → List ℕ × Summary
titled_text it = (it.title.items, it.summary)

-- pages that have the same bytes, with the same states, and what was last shown of each node is the same
pub record PageAlike (s t : Pages) : Type 0 where
  pub updates : s.updates ≡ t.updates
  pub states : map titled_text s.states ≡ map titled_text t.states
  pub kept : KeepAlike s.kept t.kept
  pub written : HaveSame s.written t.written

-- and the same is reported
abbrev pub ShownAlike : Shown → Shown → Type 0
ShownAlike s t = PageAlike s.0 t.0 × HaveSame s.1 t.1

abbrev pub TakenAlike : FullNodeId → TurnTaken → TurnTaken → Type 0
TakenAlike p turn other = TurnAlike p turn.0 other.0 × (turn.1 ≡ other.1)

-- Pages that have the same bytes still have by turns that differ at most in what is typed into a password, if the same came of each.
abbrev pub TypingMakesTheSamePage : Type 0
TypingMakesTheSamePage =
    (p : FullNodeId) (turns others : List TurnTaken) → AllZip (TakenAlike p) turns others → (s t u v : Shown) → ShownAlike s u
    → FoldsTo ShowsTaken s turns t → FoldsTo ShowsTaken u others v → ShownAlike t v

-- ---- runs

-- a run of the program, of which the output has had no error before its first state
pub record PageRun : Type 0 where
  pub input : Bytes
  pub before : Bytes
  pub after : Bytes
  pub told_before : Bytes
  pub told_after : Bytes
  pub status : ℕ
  pub writes : WritesPage input before after told_before told_after status

-- two scripts ended alike: the page says the same of it, and the same is reported
pub record EndAlike (e f : Ending) : Type 0 where
  pub ended : e.ended ≡ f.ended
  pub said : stop_text e.ended e.line e.message.items ≡ stop_text f.ended f.line f.message.items
  pub told : told_text e.ended e.line e.message.items ≡ told_text f.ended f.line f.message.items

-- Two runs up to the end of the input or to a bad line, whose outputs had the same bytes before, and whose turns differ at most in what is
-- typed into this password, with the same outcomes. Their scripts ended alike.
pub record RunAlike (p : FullNodeId) (one two : PageRun) : Type 0 where
  pub before : HaveSame one.before two.before
  pub told_before : HaveSame one.told_before two.told_before
  pub status : one.status ≤ 2
  pub other_status : two.status ≤ 2
  pub turns : AllZip (TakenAlike p) one.writes.pages.turns two.writes.pages.turns
  pub ending : EndAlike one.writes.pages.ending two.writes.pages.ending

-- Such runs write the same bytes, from the head of the page to its end, and report the same, with the same status.
abbrev pub TypingWritesTheSamePage : Type 0
TypingWritesTheSamePage =
    (p : FullNodeId) (one two : PageRun) → RunAlike p one two →
    HaveSame one.after two.after × HaveSame one.told_after two.told_after × (one.status ≡ two.status)
