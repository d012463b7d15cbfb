-- A message about the last line of a reader.
use Rattle.std.proofs.Common.{◌≡◌, ℕ, List, Option, OnOk, Result, Ok, Err, is_some, subst}
use Rattle.std.specs.Io.KnownBytes.{Appends, Keeps}
use Rattle.std.proofs.KnownBytes.{Appends-kept}
use Rattle.line_faults.specs.Faults.{Explains}
use Rattle.line_faults.specs.Messages.{Suggests, fault_line}
use Rattle.line_faults.specs.declared.reasons.LineFault.{LineFault}
use Rattle.script_lines.specs.Ends.{TellsOfLine}
use Rattle.script_lines.specs.Taking.{last_line, number_of}
use Rattle.script_lines.specs.declared.reader.ScriptReader.{ScriptReader}

pub on_ok_always : {T E P : Type 0} (r : Result T E) → P → OnOk r P
on_ok_always (Ok x) p = p
on_ok_always (Err e) p = tt

-- a message is written, and nothing after it
pub told_of_line : (script : ScriptReader) (a b c : Option (List ℕ)) (number : ℕ) (line : List ℕ) (fault : LineFault) (near : Option (List ℕ)) → line ≡ last_line script → number ≡ number_of script → Explains (is_some script.begun) (last_line script) fault → Suggests line fault near → Appends a b (fault_line number line fault near) → Keeps b c → TellsOfLine script a c
told_of_line script a b c number line fault near l n explains suggests appended kept =
    let P : List ℕ → Type 0 = λ text. Appends a b (fault_line number text fault near) in
    let Q : ℕ → Type 0 = λ count. Appends a b (fault_line count (last_line script) fault near) in
    let S : List ℕ → Type 0 = λ text. Suggests text fault near in
    (fault, near, explains, subst S l suggests, Appends-kept a b c (fault_line (number_of script) (last_line script) fault near) (subst Q n (subst P l appended)) kept)
