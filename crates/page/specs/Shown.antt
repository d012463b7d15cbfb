-- What a page shows of a script, command by command.
use Rattle.std.specs.Prelude.{◌≡◌, ◌⊎◌, ℕ, List, [], ◌∷◌, ◌++◌, MatchOption, MatchResult, Result, Ok, Some}
use Rattle.std.specs.BTreeMap.{BTreeMap, IsEmpty}
use Rattle.std.specs.Io.KnownBytes.{Appends}
use Rattle.html.specs.Written.{AppendsBeginning}
use Rattle.atree_script.specs.Playing.{Turn, Begun as TreeBegun, FirstRefused, Ran, Asked, Printed}
use Rattle.atree_script.specs.Reports.{report_line}
use Rattle.model.specs.declared.FullNodeId.{FullNodeId}
use Rattle.model.specs.World.{World}
use Rattle.script_words.specs.declared.stops.Stop.{Stop}
use Rattle.script_words.specs.declared.stops.Stop.TheVariants.{Memory, WriteFault}
use Rattle.session.specs.declared.commands.Command.{Command}
use Rattle.page_states.specs.declared.again.Last.{Last}
use Rattle.page_states.specs.States.{WritesState}
use Rattle.page.specs.declared.tally.Tally.{Tally}
use Rattle.page.specs.declared.sections.Cause.{Cause}
use Rattle.page.specs.declared.sections.Cause.TheVariants.{Update}
use Rattle.page.specs.declared.sections.Outcome.{Outcome}
use Rattle.page.specs.declared.sections.Outcome.TheVariants.{Begun, Changed, Same, Refused}
use Rattle.page.specs.declared.sections.Summary.{Summary}
use Rattle.page.specs.declared.sections.Titled.{Titled}
use Rattle.page.specs.Reports.{Bytes, Marked, ReportsStep, no_tally}
use Rattle.page.specs.States.{counted, next_number, cause_of, updates_after, state_begun, outcome_text}

-- what was last shown of each node
abbrev pub Kept : Type 0
Kept = BTreeMap FullNodeId Last

-- a page while it is written: how many updates there were, its states, what was last shown of each node, and what is written
pub record Pages : Type 0 where
  pub updates : ℕ
  pub states : List Titled
  pub kept : Kept
  pub written : Bytes

abbrev pub pages_of : ℕ → List Titled → Kept → Bytes → Pages
pages_of updates states kept written = record { updates = updates; states = states; kept = kept; written = written }

abbrev pub summary : Cause → Outcome → Tally → Summary
summary cause outcome tally = record { cause = cause; outcome = outcome; tally = tally }

-- a tree is written after its beginning and after each change
abbrev pub WritesTree : ℕ → World → Marked → Outcome → Kept × Bytes → Kept × Bytes → Type 0
WritesTree number w marks Begun before after = WritesState number w marks before after
WritesTree number w marks Changed before after = WritesState number w marks before after
WritesTree number w marks Same before after = (after.0 ≡ before.0) × (after.1 ≡ before.1)
WritesTree number w marks (Refused why) before after = (after.0 ≡ before.0) × (after.1 ≡ before.1)

-- the state of a first update, which has no events
abbrev pub first_summary : ℕ → Outcome → Summary
first_summary updates outcome = summary (Update (counted updates)) outcome no_tally

-- what came of a state is said, and it is one more state, with its title
pub record Notes (title : List ℕ) (it : Summary) (s t : Pages) : Type 0 where
  pub outcome : Appends s.written t.written (outcome_text (next_number s.states) it.outcome)
  pub state : Titled
  pub titled : state.title.items ≡ title
  pub summary : state.summary ≡ it
  pub states : t.states ≡ s.states ++ state ∷ []
  pub kept : t.kept ≡ s.kept
  pub updates : t.updates ≡ updates_after it.cause s.updates

-- a state without events begins, and what came of it is said
pub record Opens (title : List ℕ) (it : Summary) (s t : Pages) : Type 0 where
  pub begun : Bytes
  pub begins : Appends s.written begun (state_begun (next_number s.states) title it.cause)
  pub notes : Notes title it (pages_of s.updates s.states s.kept begun) t

-- and its tree is written, without marks
pub record ShowsState (title : List ℕ) (it : Summary) (w : World) (s t : Pages) : Type 0 where
  pub noted : Bytes
  pub opens : Opens title it s (pages_of t.updates t.states s.kept noted)
  pub unmarked : Marked
  pub empty : IsEmpty unmarked
  pub tree : WritesTree (next_number s.states) w unmarked it.outcome (s.kept, noted) (t.kept, t.written)

-- the state that a step makes is shown, with its events and what came of it
pub record ShowsStep (title : List ℕ) (cause : Cause) (outcome : Outcome) (s : Pages) (old : World) (c : Command) (new : World)
    (t : Pages) : Type 0 where
  pub begun : Bytes
  pub begins : Appends s.written begun (state_begun (next_number s.states) title cause)
  pub told : Bytes
  pub tally : Tally
  pub marks : Marked
  pub reports : ReportsStep (next_number s.states) old c new begun outcome tally marks told
  pub noted : Bytes
  pub notes : Notes title (summary cause outcome tally) (pages_of s.updates s.states s.kept told) (pages_of t.updates t.states s.kept noted)
  pub tree : WritesTree (next_number s.states) new marks outcome (s.kept, noted) (t.kept, t.written)

-- a state is listed, with its title
pub record Lists (title : List ℕ) (it : Summary) (before after : List Titled) : Type 0 where
  pub state : Titled
  pub titled : state.title.items ≡ title
  pub summary : state.summary ≡ it
  pub states : after ≡ before ++ state ∷ []

-- ---- what is written and reported of a turn

-- a page, and the bytes that are reported on standard error
abbrev pub Shown : Type 0
Shown = Pages × Bytes

abbrev pub shown_of : ℕ → List Titled → Kept → Bytes → Bytes → Shown
shown_of updates states kept written told = (pages_of updates states kept written, told)

-- a page, with nothing written yet
abbrev pub unwritten : Pages → Pages
unwritten s = pages_of s.updates s.states s.kept (Some [])

-- how the text of a state is added to what is written: all of it, by `Appends`, or a beginning of it, by `AppendsBeginning`
abbrev pub Adds : Type 1
Adds = Bytes → Bytes → List ℕ → Type 0

-- A state is written: its text is what is shown of it where nothing is written yet.
pub record Writes (shows : Pages → Pages → Type 0) (adds : Adds) (s t : Pages) : Type 0 where
  pub text : List ℕ
  pub shown : shows (unwritten s) (pages_of t.updates t.states t.kept (Some text))
  pub written : adds s.written t.written text

-- nothing is written, reported or listed
pub record IsSilent (s t : Shown) : Type 0 where
  pub written : t.0.written ≡ s.0.written
  pub told : t.1 ≡ s.1
  pub states : t.0.states ≡ s.0.states

-- Memory ran out, and nothing is written of the state. Or the output has an error: a beginning of the state is written, and nothing is
-- reported. Or standard error has one, once all of the state is written.
abbrev pub Stops : Stop → (Adds → Type 0) → Shown → Shown → Type 0
Stops stop writes s t =
    ((stop ≡ Memory) × IsSilent s t) ⊎ ((stop ≡ WriteFault) × ((writes AppendsBeginning × (t.1 ≡ s.1)) ⊎ writes Appends))

-- all of a state is written, and this is reported; or it stops the script
abbrev pub OrStops : Result Unit Stop → Type 0 → (Adds → Type 0) → Shown → Shown → Type 0
OrStops result reports writes s t = MatchResult result (λ _. writes Appends × reports) (λ stop. Stops stop writes s t)

-- what is reported of a state: of a refused update the line that ends it, its number among the updates, and why it is refused
abbrev pub report_text : ℕ → Cause → Outcome → List ℕ
report_text line (Update number) (Refused why) = report_line number line why
report_text line cause outcome = []

-- a first tree is shown, of which nothing is reported
abbrev pub ShowsFirst : List ℕ → Summary → World → Shown → Result Unit Stop → Shown → Type 0
ShowsFirst title it w s result t = OrStops result (t.1 ≡ s.1) (λ adds. Writes (ShowsState title it w) adds s.0 t.0) s t

-- that a first update is refused is shown and reported
abbrev pub RefusesFirst : List ℕ → ℕ → Summary → Shown → Result Unit Stop → Shown → Type 0
RefusesFirst title line it s result t =
    OrStops result (Appends s.1 t.1 (report_text line it.cause it.outcome)) (λ adds. Writes (Opens title it) adds s.0 t.0) s t

-- the state that a step makes is shown, and its refusal is reported, if it is refused
pub record ShowsTurn (title : List ℕ) (line : ℕ) (cause : Cause) (s : Shown) (old : World) (c : Command) (new : World)
    (result : Result Unit Stop) (t : Shown) : Type 0 where
  pub outcome : Outcome
  pub shows : OrStops result (Appends s.1 t.1 (report_text line cause outcome))
      (λ adds. Writes (λ a b. ShowsStep title cause outcome a old c new b) adds s.0 t.0) s t

-- a command that makes no state shows nothing
abbrev pub ShowsRun : List ℕ → ℕ → World → Command → World → Shown → Result Unit Stop → Shown → Type 0
ShowsRun title line old c new s result t =
    MatchOption (cause_of old.host_focused s.0.updates c) ((new ≡ old) × (t ≡ s) × (result ≡ Ok tt))
    (λ cause. ShowsTurn title line cause s old c new result t)

-- What a command shows: the comment right before it is the title of the state that it makes. Of a query or a `print` nothing is shown.
abbrev pub Shows : Shown → Turn → Result Unit Stop → Shown → Type 0
Shows s (TreeBegun comment w) result t = ShowsFirst comment (first_summary s.0.updates Begun) w s result t
Shows s (FirstRefused comment line why) result t = RefusesFirst comment line (first_summary s.0.updates (Refused why)) s result t
Shows s (Ran comment line old c new) result t = ShowsRun comment line old c new s result t
Shows s (Asked old q new) result t = (new ≡ old) × (t ≡ s) × (result ≡ Ok tt)
Shows s (Printed w) result t = (t ≡ s) × (result ≡ Ok tt)
