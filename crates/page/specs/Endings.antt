-- Why a script ended, and what is told of it.
use Rattle.std.specs.Prelude.{◌≡◌, ◌⊎◌, ℕ, List, [], Option, is_some, Result, Ok, Err}
use Rattle.atree_script.specs.declared.playing.Played.{Played}
use Rattle.line_faults.specs.Faults.{Explains}
use Rattle.line_faults.specs.Messages.{Suggests, fault_line}
use Rattle.line_faults.specs.declared.reasons.LineFault.{LineFault}
use Rattle.script_lines.specs.Ends.{told_of}
use Rattle.script_lines.specs.Taking.{last_line}
use Rattle.script_words.specs.declared.stops.Stop.{Stop}
use Rattle.script_words.specs.declared.stops.Stop.TheVariants.{BadLine, ReadFault, WriteFault, Memory}
use Rattle.page.specs.declared.stops.Ending.{Ending}

-- what is wrong in the last line that was read, with its number
pub record IsMessage (played : Played) (message : List ℕ) : Type 0 where
  pub fault : LineFault
  pub near : Option (List ℕ)
  pub explains : Explains (is_some played.script.begun) (last_line played.script) fault
  pub suggests : Suggests (last_line played.script) fault near
  pub text : message ≡ fault_line played.number (last_line played.script) fault near

-- it ended at a bad line, and what is wrong in it is told; or there is no memory for that
abbrev pub EndsAtFault : Played → Ending → Type 0
EndsAtFault played ending =
    (ending.line ≡ played.number) × ((ending.ended ≡ Err Memory) ⊎ ((ending.ended ≡ Err BadLine) × IsMessage played ending.message.items))

abbrev pub EndsPlain : Played → Ending → Type 0
EndsPlain played ending = (ending.line ≡ played.number) × (ending.ended ≡ played.ended)

abbrev pub EndsBy : Result Unit Stop → Played → Ending → Type 0
EndsBy (Ok done) played ending = EndsPlain played ending
EndsBy (Err BadLine) played ending = EndsAtFault played ending
EndsBy (Err ReadFault) played ending = EndsPlain played ending
EndsBy (Err WriteFault) played ending = EndsPlain played ending
EndsBy (Err Memory) played ending = EndsPlain played ending

-- a script ended as it was played
abbrev pub EndsAs : Played → Ending → Type 0
EndsAs played ending = EndsBy played.ended played ending

-- what is reported of what stopped a run at this line: of a bad line this message
abbrev pub told_by : Stop → ℕ → List ℕ → List ℕ
told_by BadLine line message = message
told_by ReadFault line message = told_of line ReadFault
told_by WriteFault line message = told_of line WriteFault
told_by Memory line message = told_of line Memory

abbrev pub told_text : Result Unit Stop → ℕ → List ℕ → List ℕ
told_text (Ok done) line message = []
told_text (Err stop) line message = told_by stop line message
