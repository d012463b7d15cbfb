-- How the commands of lines are read one after another.
use Rattle.std.proofs.Common.{◌≡◌, ℕ, List, [], ◌∷◌, ◌++◌, Option, Some, None, Result, Ok, Err, sym, ap, subst}
use Rattle.std.proofs.lemmas.Fn.{FoldsTo-push}
use Rattle.std.specs.Option.{unwrap_or}
use Rattle.schema.specs.UpdateData.{UpdateData}
use Rattle.script_lines.specs.ScriptReading.{IsPlace, Place, ReadsTo, place}
use Rattle.script_lines.specs.Taking.{begun_of, comment_of, number_of}
use Rattle.script_lines.specs.declared.reader.ScriptCommand.{ScriptCommand}
use Rattle.script_lines.specs.declared.reader.ScriptReader.{ScriptReader}
use Rattle.script_words.specs.declared.stops.Stop.{Stop}
use Rattle.script_words.specs.declared.stops.Stop.TheVariants.{BadLine}
use Rattle.fed_tree.specs.Feeding.{start, ReadsNext, BeginWith, Say, HasBadLine}

abbrev at_bytes : List ℕ → Option UpdateData → List ℕ → ℕ → Place
at_bytes bytes begun comment number = record { left = bytes; begun = begun; comment = comment; number = number }

-- a reader that has read nothing is before the first line
pub at_start : (lines : List ℕ) (reader : ScriptReader) → begun_of reader ≡ None → comment_of reader ≡ [] → number_of reader ≡ 0 → start lines ≡ place reader lines
at_start lines reader begun comment number = sym (λ i. at_bytes lines (begun i) (comment i) (number i))

-- what a reader answers, with these bytes before it, and those after it
abbrev pub Answers : ScriptReader → List ℕ → Result (Option ScriptCommand) Stop → ScriptReader → List ℕ → Type 0
Answers reader bytes result after left = (next : Place) × ReadsTo (place reader bytes) result next × IsPlace next result after (Some left)

module _ (lines : List ℕ) (commands : List ScriptCommand) (reader : ScriptReader) (bytes : List ℕ) (begins : BeginWith lines commands (place reader bytes)) where
  -- one command more is read
  pub one_more : (command : ScriptCommand) (after : ScriptReader) (left : List ℕ) → Answers reader bytes (Ok (Some command)) after left → BeginWith lines (commands ++ command ∷ []) (place after left)
  one_more command after left answers =
      let next = answers.0 in
      let bytes_left = ap (λ (o : Option (List ℕ)). unwrap_or o []) answers.2.1.1 in
      let same : place after left ≡ next = λ i. at_bytes (bytes_left i) (answers.2.1.0 i) (answers.2.1.2 i) (answers.2.0 i) in
      subst (λ (at : Place). BeginWith lines (commands ++ command ∷ []) at) (sym same) (FoldsTo-push ReadsNext (start lines) commands (place reader bytes) command next begins answers.1)

  -- the lines end
  pub all_read : (after : ScriptReader) (left : List ℕ) → Answers reader bytes (Ok None) after left → Say lines commands
  all_read after left answers = (place reader bytes, answers.0, begins, answers.1)

  -- there is a bad line
  pub bad_read : (after : ScriptReader) (left : List ℕ) (number : ℕ) → Answers reader bytes (Err BadLine) after left → number ≡ number_of after → HasBadLine lines number
  bad_read after left number answers is = (commands, place reader bytes, answers.0, begins, answers.1, subst (λ (n : ℕ). number ≡ n) answers.2.0 is)
