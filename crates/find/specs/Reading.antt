-- What a script that is read gives to print.
use Rattle.std.specs.Prelude.{◌≡◌, ℕ, List, Option, Result, Ok, Err, MatchResult}
use Rattle.model.specs.World.{World}
use Rattle.script_lines.specs.Ends.{TellsStop}
use Rattle.script_lines.specs.Taking.{number_of}
use Rattle.script_lines.specs.declared.reader.ScriptReader.{ScriptReader}
use Rattle.script_words.specs.declared.stops.Stop.{Stop}
use Rattle.atree_script.specs.Input.{Commented, start_of}
use Rattle.atree_script.specs.Played.{Bytes}
use Rattle.atree_script.specs.Playing.{Stage, no_tree, Plays}
use Rattle.find.specs.Finding.{nothing_seen}
use Rattle.find.specs.Noted.{Seen, NotesTurn, noted_of}
use Rattle.find.specs.declared.noting.Notes.{Notes}
use Rattle.find.specs.declared.reading.Read.{Read}
use Rattle.find.specs.declared.wanted.Wanted.{Wanted}

abbrev pub seen_of : Wanted → ℕ → Bytes → Notes → Seen
seen_of wanted updates reported notes = record { wanted = wanted; updates = updates; reported = reported; noted = noted_of notes }

-- what is read is what is seen at the end, and the errors have what is reported
abbrev pub IsReadAs : Stage × Seen → Wanted → Bytes → Read → Type 0
IsReadAs end wanted after read = (read.session ≡ end.0.world) × (seen_of wanted read.updates after read.notes ≡ end.1)

-- a script is read for what is noted of it; or what stopped the reading is reported too, a bad line with its fault, and it gives the status
pub record ReadsNoted (wanted : Wanted) (input before after : Bytes) (result : Result Read ℕ) : Type 0 where
  pub commands : List Commented
  pub ended : Result Unit Stop
  pub script : ScriptReader
  pub end : Stage × Seen
  pub plays : Plays NotesTurn (start_of input) (no_tree, nothing_seen wanted before) commands ended (number_of script) end
  pub gives : MatchResult result
      (λ read. (ended ≡ Ok tt) × IsReadAs end wanted after read)
      (λ status. (stop : Stop) × (ended ≡ Err stop) × TellsStop script stop end.1.reported after status)
