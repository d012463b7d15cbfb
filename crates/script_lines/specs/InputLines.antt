-- The lines of an input, as they stand in its bytes.
use Rattle.std.specs.Prelude.{ℕ, ◌+◌, ◌-◌, ◌^◌, min, List, [], ◌≢◌, ◌≡◌, ◌⊎◌, ◌↔◌, slice_index_or, Option, Some, None, Result, Ok, Err}
use Rattle.std.specs.Io.BufRead.{take_through, strip_last}
use Rattle.std.specs.Str.{IsUtf8}
use Rattle.script_lines.specs.HeadMeaning.{ReadsUpdate}
use Rattle.script_lines.specs.LineMeaning.{ReadsPlain}
use Rattle.script_lines.specs.NodeMeaning.{ReadsNode}
use Rattle.script_lines.specs.declared.line_reader.Looks.{Looks}
use Rattle.script_lines.specs.declared.lines.Line.{Line}
use Rattle.script_lines.specs.declared.lines.Line.TheVariants as says
use Rattle.script_words.specs.declared.stops.Stop.{Stop}
use Rattle.script_words.specs.declared.stops.Stop.TheVariants.{BadLine, Memory, ReadFault}

-- ---- lines are cut at newlines; what comes after the last newline is a line too, if there is something

-- a line without its newline, and then without one carriage return at its end
abbrev pub without_end : List ℕ → List ℕ
without_end line = strip_last 13 (strip_last 10 line)

-- the number of the line after one; it stops at the greatest of 64 bits
abbrev pub next_number : ℕ → ℕ
next_number n = min (n + 1) (2 ^ 64 - 1)

-- ---- what is read of a line

-- it is empty, or begins a comment
abbrev pub IsBlank : List ℕ → Type 0
IsBlank text = (text ≡ []) ⊎ (slice_index_or text 0 0 ≡ 35)

-- any line is read as what it means; only one that says nothing is read so
pub record ReadsAs (text : List ℕ) (result : Result Line Stop) : Type 0 where
  pub nothing : (result ≡ Ok says.Nothing) ↔ IsBlank text
  pub node : ReadsNode text result
  pub plain : ReadsPlain text result
  pub update : ReadsUpdate text result

-- what stops a reading that isn't about a line: a fault of the input, or want of memory
abbrev pub StopsReading : Stop → Type 0
StopsReading stop = (stop ≡ ReadFault) ⊎ (stop ≡ Memory)

-- a line with its end is read: it is bad where it isn't UTF-8
abbrev pub ReadsLine : List ℕ → Result Line Stop → Type 0
ReadsLine line result = ((result ≡ Err BadLine) × (IsUtf8 line → ⊥)) ⊎ (IsUtf8 line × ReadsAs (without_end line) result)

-- the first of these lines is read; there is none only where there are no bytes
abbrev pub ReadsNext : List ℕ → Result (Option Line) Stop → Type 0
ReadsNext bytes (Ok None) = bytes ≡ []
ReadsNext bytes (Ok (Some line)) = (bytes ≢ []) × ReadsLine (take_through 10 bytes) (Ok line)
ReadsNext bytes (Err stop) = stop ≡ BadLine → (bytes ≢ []) × ReadsLine (take_through 10 bytes) (Err stop)

-- lines are counted as they stand, a bad one too
abbrev pub CountsLine : ℕ → Result (Option Line) Stop → ℕ → Type 0
CountsLine before (Ok None) after = after ≡ before
CountsLine before (Ok (Some line)) after = after ≡ next_number before
CountsLine before (Err stop) after = stop ≡ BadLine → after ≡ next_number before

-- ---- faults of the input

-- it gave one more error, or was looked at for one line as often as 64 bits can count
abbrev pub HasFailed : Looks → Looks → Type 0
HasFailed before after = (after.failures ≡ next_number before.failures) ⊎ (after.count ≡ 2 ^ 64 - 1)

-- a reading answers that it has a fault only where it has failed, and counts no other failure
abbrev pub CountsFaults : {T : Type 0} → Result T Stop → Looks → Looks → Type 0
CountsFaults result before after =
    (result ≡ Err ReadFault → HasFailed before after) × (result ≢ Err ReadFault → after.failures ≡ before.failures)
