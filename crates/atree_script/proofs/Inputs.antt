-- How a reader goes over the commands of an input.
use Rattle.std.proofs.Common.{◌≡◌, ℕ, List, [], ◌∷◌, ◌++◌, Option, Some, None, option_map, Result, Ok, Err, IfSome, refl, sym, ap, subst}
use Rattle.std.proofs.lemmas.Fn.{FoldsTo-push}
use Rattle.std.specs.List.{FoldsTo}
use Rattle.std.specs.Result.{IsErrAnd}
use Rattle.schema.specs.UpdateData.{UpdateData}
use Rattle.script_lines.specs.ScriptReading.{IsPlace, Place, ReadsTo, place}
use Rattle.script_lines.specs.Taking.{begun_of, comment_of, number_of}
use Rattle.script_lines.specs.declared.reader.ScriptCommand.{ScriptCommand}
use Rattle.script_lines.specs.declared.reader.ScriptReader.{ScriptReader}
use Rattle.script_words.specs.declared.stops.Stop.{Stop}
use Rattle.script_words.specs.declared.stops.Stop.TheVariants.{ReadFault}
use Rattle.atree_script.specs.Input.{Commented, start_of, ReadsNext, no_command, ReadsThese, ReadsAll}

pub err_is : {T : Type 0} (result : Result T Stop) (stop : Stop) → IsErrAnd result (λ s. s ≡ stop) → result ≡ Err stop
err_is (Ok x) stop h = absurd h
err_is (Err s) stop h = ap Err h

-- where the bytes were known as the reader began, these commands are read since then, and it is before what is left
abbrev pub HasRead : Option (List ℕ) → ScriptReader → List Commented → Option (List ℕ) → ScriptReader → Type 0
HasRead before first commands left reader = IfSome before (λ bytes. (xs : List ℕ) × (left ≡ Some xs) × FoldsTo ReadsNext (place first bytes) commands (place reader xs))

-- what a reader answers
abbrev pub Answers : Option (List ℕ) → ScriptReader → Result (Option ScriptCommand) Stop → ScriptReader → Option (List ℕ) → Type 0
Answers before first result reader left = IfSome before (λ bytes. (next : Place) × ReadsTo (place first bytes) result next × IsPlace next result reader left)

pub nothing_read : (before : Option (List ℕ)) (first : ScriptReader) → HasRead before first [] before first
nothing_read None first = tt
nothing_read (Some bytes) first = (bytes, refl, refl)

abbrev at_bytes : List ℕ → Option UpdateData → List ℕ → ℕ → Place
at_bytes bytes begun comment number = record { left = bytes; begun = begun; comment = comment; number = number }

same_place : (bytes : List ℕ) {begun begun' : Option UpdateData} {comment comment' : List ℕ} {number number' : ℕ} → begun ≡ begun' → comment ≡ comment' → number ≡ number' → at_bytes bytes begun comment number ≡ at_bytes bytes begun' comment' number'
same_place bytes b c n = λ i. at_bytes bytes (b i) (c i) (n i)

-- a command with the comment before it and its line, as the reader has them then
abbrev pub commented : ScriptReader → ScriptCommand → Commented
commented reader command = record { comment = comment_of reader; line = number_of reader; command = command }

module _ (before : Option (List ℕ)) (first : ScriptReader) (commands : List Commented) (left : Option (List ℕ)) (reader : ScriptReader) (has_read : HasRead before first commands left reader) where
  pub one_more : (command : ScriptCommand) (next : ScriptReader) (after : Option (List ℕ)) → Answers left reader (Ok (Some command)) next after → HasRead before first (commands ++ commented next command ∷ []) after next
  one_more command next after answers = known before has_read
    where
      known : (o : Option (List ℕ)) → HasRead o first commands left reader → HasRead o first (commands ++ commented next command ∷ []) after next
      known None h = tt
      known (Some bytes) h =
          let k = subst (λ l. Answers l reader (Ok (Some command)) next after) h.1 answers in
          let same : place next k.0.left ≡ k.0 = same_place k.0.left k.2.1.0 k.2.1.2 k.2.0 in
          (k.0.left, k.2.1.1, subst (λ p. FoldsTo ReadsNext (place first bytes) (commands ++ commented next command ∷ []) p) (sym same) (FoldsTo-push ReadsNext (place first bytes) commands (place reader h.0) (commented next command) k.0 h.2 (k.1, sym k.2.1.2, sym k.2.0)))

  -- the reading ends
  pub read_out : (ended : Result Unit Stop) (next : ScriptReader) (after : Option (List ℕ)) → Answers left reader (no_command ended) next after → ReadsAll (option_map (place first) before) commands ended (number_of next)
  read_out ended next after answers = known before has_read
    where
      known : (o : Option (List ℕ)) → HasRead o first commands left reader → ReadsAll (option_map (place first) o) commands ended (number_of next)
      known None h = tt
      known (Some bytes) h =
          let k = subst (λ l. Answers l reader (no_command ended) next after) h.1 answers in
          (place reader h.0, k.0, h.2, k.1, k.2.0)

  pub given_up : ReadsAll (option_map (place first) before) commands (Err ReadFault) (number_of reader)
  given_up = known before has_read
    where
      known : (o : Option (List ℕ)) → HasRead o first commands left reader → ReadsAll (option_map (place first) o) commands (Err ReadFault) (number_of reader)
      known None h = tt
      known (Some bytes) h = (place reader h.0, place reader h.0, h.2, tt, refl)

-- a command stops the script, and nothing more is read
pub read_these : (before : Option (List ℕ)) (first : ScriptReader) (commands : List Commented) (left : Option (List ℕ)) (reader : ScriptReader) → HasRead before first commands left reader → ReadsThese (option_map (place first) before) commands (number_of reader)
read_these None first commands left reader h = tt
read_these (Some bytes) first commands left reader h = (place reader h.0, h.2, refl)

-- a reader that has read nothing is at the start
pub at_start : (input : Option (List ℕ)) (reader : ScriptReader) → begun_of reader ≡ None → comment_of reader ≡ [] → number_of reader ≡ 0 → option_map (place reader) input ≡ start_of input
at_start None reader begun comment number = refl
at_start (Some bytes) reader begun comment number = ap Some (same_place bytes begun comment number)
