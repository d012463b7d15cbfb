-- What is reported at the end of a run, and its exit status.
use Rattle.std.specs.Prelude.{ℕ, List, [], ◌++◌, codes, Option, Result, Ok, Err, is_some, ◌≡◌, ◌≢◌, ◌⊎◌}
use Rattle.std.specs.Fmt.{decimal}
use Rattle.std.specs.Io.KnownBytes.{Appends}
use Rattle.line_faults.specs.Faults.{Explains}
use Rattle.line_faults.specs.Messages.{Suggests, fault_line}
use Rattle.line_faults.specs.declared.reasons.LineFault.{LineFault}
use Rattle.script_lines.specs.Taking.{last_line, number_of}
use Rattle.script_lines.specs.declared.reader.ScriptReader.{ScriptReader}
use Rattle.script_words.specs.declared.stops.Stop.{Stop}
use Rattle.script_words.specs.declared.stops.Stop.TheVariants.{BadLine, ReadFault, WriteFault, Memory}

-- the report of what stopped a run: a bad line by its number, lack of memory, and nothing for an error of a stream
abbrev pub told_of : ℕ → Stop → List ℕ
told_of number BadLine = codes "line " ++ decimal number ++ codes ": bad line\n"
told_of number Memory = codes "out of memory\n"
told_of number ReadFault = []
told_of number WriteFault = []

abbrev pub status_of : Stop → ℕ
status_of BadLine = 2
status_of ReadFault = 3
status_of WriteFault = 3
status_of Memory = 4

-- at the end of the input nothing is reported
abbrev pub told_at_end : ℕ → Result Unit Stop → List ℕ
told_at_end number (Ok done) = []
told_at_end number (Err stop) = told_of number stop

abbrev pub status_at_end : Result Unit Stop → ℕ
status_at_end (Ok done) = 0
status_at_end (Err stop) = status_of stop

-- this is reported, with its status; or the status is that of an error of a stream
abbrev pub Tells : Option (List ℕ) → Option (List ℕ) → List ℕ → ℕ → ℕ → Type 0
Tells before after text status result = ((result ≡ status) × Appends before after text) ⊎ (result ≡ 3)

-- a message about the last line of this reader is reported, about a fault that explains the line, with the status of a bad line
abbrev pub TellsOfLine : ScriptReader → Option (List ℕ) → Option (List ℕ) → Type 0
TellsOfLine script before after =
    (fault : LineFault) × (near : Option (List ℕ)) × Explains (is_some script.begun) (last_line script) fault
    × Suggests (last_line script) fault near
    × Appends before after (fault_line (number_of script) (last_line script) fault near)

-- that, or the status is that of an error of a stream
abbrev pub TellsFault : ScriptReader → Option (List ℕ) → Option (List ℕ) → ℕ → Type 0
TellsFault script before after result = ((result ≡ 2) × TellsOfLine script before after) ⊎ (result ≡ 3)

-- What stopped a run over the script of this reader is reported: a bad line with its fault, and else as ever.
pub record TellsStop (script : ScriptReader) (stop : Stop) (before after : Option (List ℕ)) (result : ℕ) : Type 0 where
  pub bad : stop ≡ BadLine → TellsFault script before after result
  pub told : stop ≢ BadLine → Tells before after (told_of (number_of script) stop) (status_of stop) result

-- The same at the end of a run; at the end of the input nothing is reported.
pub record TellsEnd (script : ScriptReader) (ended : Result Unit Stop) (before after : Option (List ℕ)) (result : ℕ) : Type 0 where
  pub bad : ended ≡ Err BadLine → TellsFault script before after result
  pub told : ended ≢ Err BadLine → Tells before after (told_at_end (number_of script) ended) (status_at_end ended) result
