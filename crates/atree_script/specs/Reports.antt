-- What is reported of a script that is read for the tree that it leaves.
use Rattle.std.specs.Prelude.{◌≡◌, ℕ, List, ◌++◌, codes, Option, Some, None, MatchOption, Result, Ok, Err, MatchResult}
use Rattle.std.specs.Fmt.{decimal}
use Rattle.std.specs.declared.alloc.AllocError.{AllocError}
use Rattle.model.specs.Events.{Event}
use Rattle.model.specs.World.{World}
use Rattle.tree_changes.specs.RefusalTexts.{refusal_text}
use Rattle.tree_changes.specs.declared.error.UpdateError.{UpdateError}
use Rattle.script_lines.specs.Ends.{TellsStop}
use Rattle.script_lines.specs.InputLines.{next_number}
use Rattle.script_lines.specs.Taking.{number_of}
use Rattle.script_lines.specs.declared.reader.ScriptReader.{ScriptReader}
use Rattle.script_words.specs.declared.stops.Stop.{Stop}
use Rattle.script_words.specs.declared.stops.Stop.TheVariants.{Memory}
use Rattle.session.specs.Replied.{IsStep}
use Rattle.session.specs.declared.commands.Command.{Command}
use Rattle.session.specs.declared.commands.Command.TheVariants as command
use Rattle.session.specs.declared.commands.Reply.{Reply}
use Rattle.session.specs.declared.commands.Reply.TheVariants.{Refused}
use Rattle.atree_script.specs.Input.{Commented, start_of}
use Rattle.atree_script.specs.Played.{Bytes}
use Rattle.atree_script.specs.Playing.{Turn, Begun, FirstRefused, Ran, Asked, Printed, Stage, no_tree, Plays, end_of_refusal}
use Rattle.atree_script.specs.Scripts.{Writes}

-- the report of a refused update, by the line that ends it and its number among the updates
abbrev pub report_line : ℕ → ℕ → UpdateError → List ℕ
report_line number line why =
    codes "line " ++ decimal line ++ codes ", update " ++ decimal number ++ codes ": " ++ refusal_text why ++ codes "\n"

-- it is written; an update that ran out of memory stops the script, and isn't reported here
abbrev pub ReportsRefusal : ℕ → ℕ → UpdateError → Result Unit Stop → Bytes → Bytes → Type 0
ReportsRefusal number line why result before after =
    MatchResult (end_of_refusal why) (λ done. Writes (report_line number line why) (Ok tt) result before after)
    (λ stop. (result ≡ Err stop) × (after ≡ before))

-- the refusal that a reply is
abbrev pub refusal_of : Reply → Option UpdateError
refusal_of (Refused why) = Some why
refusal_of _ = None

-- of a reply that is no refusal nothing is reported
abbrev pub ReportsReply : ℕ → ℕ → Result Reply AllocError → Result Unit Stop → Bytes → Bytes → Type 0
ReportsReply number line (Ok reply) result before after =
    MatchOption (refusal_of reply) ((result ≡ Ok tt) × (after ≡ before)) (λ why. ReportsRefusal number line why result before after)
ReportsReply number line (Err wanting) result before after = (result ≡ Err Memory) × (after ≡ before)

-- a command takes a step of the session, and a refusal is reported
pub record ReportsStep (number line : ℕ) (old : World) (c : Command) (new : World) (result : Result Unit Stop)
    (before after : Bytes) : Type 0 where
  pub events : List Event
  pub reply : Result Reply AllocError
  pub step : IsStep old c new events reply
  pub reported : ReportsReply number line reply result before after

-- updates are counted as they stand in the script, refused ones too
abbrev pub count_after : ℕ → Command → ℕ
count_after number (command.Update u) = next_number number
count_after number c = number

-- what is reported of a turn, with the number of updates and the bytes reported so far: nothing of the tree, of questions and of `print`
abbrev pub Reports : ℕ × Bytes → Turn → Result Unit Stop → ℕ × Bytes → Type 0
Reports s (Begun comment w) result t = (t.0 ≡ next_number s.0) × (t.1 ≡ s.1) × (result ≡ Ok tt)
Reports s (FirstRefused comment line why) result t = (t.0 ≡ next_number s.0) × ReportsRefusal t.0 line why result s.1 t.1
Reports s (Ran comment line old c new) result t = (t.0 ≡ count_after s.0 c) × ReportsStep t.0 line old c new result s.1 t.1
Reports s (Asked old q new) result t = (new ≡ old) × (t ≡ s) × (result ≡ Ok tt)
Reports s (Printed w) result t = (t ≡ s) × (result ≡ Ok tt)

-- A script is read for its tree: each of its commands in turn, from no tree on, and each refused update is reported. It gives the tree's
-- world, if there is a tree; or what stopped the reading is reported too, a bad line with its fault, and it gives the exit status.
pub record ReadsTree (input before after : Bytes) (result : Result (Option World) ℕ) : Type 0 where
  pub commands : List Commented
  pub ended : Result Unit Stop
  pub script : ScriptReader
  pub end : Stage × (ℕ × Bytes)
  pub plays : Plays Reports (start_of input) (no_tree, (0, before)) commands ended (number_of script) end
  pub gives : MatchResult result
      (λ world. (ended ≡ Ok tt) × (world ≡ end.0.world) × (after ≡ end.1.1))
      (λ status. (stop : Stop) × (ended ≡ Err stop) × TellsStop script stop end.1.1 after status)
