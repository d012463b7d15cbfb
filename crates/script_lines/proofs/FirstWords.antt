-- A line by its first word: one that begins an update, or that of a node.
use Rattle.std.proofs.Common.{◌≡◌, ℕ, ◌==◌, List, [], ◌∷◌, codes, length, slice_index_or, true, false, Option, Some, None, Result, Err, ◌≢◌, arith, ap, sym, refl, subst, ◌∙◌}
use Rattle.std.proofs.lemmas.Bool.{cond-false}
use Rattle.std.proofs.lemmas.Bool.Decides.{nat_tests}
use Rattle.std.proofs.lemmas.Option.{none-some, same_Some}
use Rattle.script_lines.specs.LineMeaning.{is_blank}
use Rattle.script_lines.specs.LineReading.{IsLineWord, ReadsBy}
use Rattle.script_lines.specs.declared.lines.Line.{Line}
use Rattle.script_lines.proofs.PlainLines.{next_begins}
use Rattle.script_words.specs.Cuts.{part_before, rest_behind}
use Rattle.script_words.specs.Meaning.{Answers, next_word, some_word}
use Rattle.script_words.specs.declared.stops.Stop.{Stop}
use Rattle.script_words.specs.declared.stops.Stop.TheVariants.{BadLine, Memory, ReadFault, WriteFault}

-- what is left behind the word that comes next
next_leaves : (text word : List ℕ) (left : Option (List ℕ)) → next_word (Some text) ≡ Some (word, left) → rest_behind 32 text ≡ left
next_leaves text word left e = by (part_before 32 text) (rest_behind 32 text) e
  where
    by : (part : List ℕ) (behind : Option (List ℕ)) → some_word part behind ≡ Some (word, left) → behind ≡ left
    by [] behind e = absurd (none-some (word, left) e)
    by (byte ∷ part) behind e = ap (λ (w : List ℕ × Option (List ℕ)). w.1) (same_Some (byte ∷ part, behind) (word, left) e)

module _ {T : Type 0} (first : List ℕ) (is_first : IsLineWord first) (meaning : Option (List ℕ) → Option T) (Has : T → Line → Type 0) where
  pub read_by_word : (text word : List ℕ) (left : Option (List ℕ)) (result : Result Line Stop) → next_word (Some text) ≡ Some (word, left)
      → (word ≡ first → Answers (meaning left) result Has) → ReadsBy first meaning Has text result
  read_by_word text word left result e reads = λ u.
      subst (λ l. Answers (meaning l) result Has) (sym (next_leaves text word left e)) (reads (sym (next_begins text word left e) ∙ u))

  -- a line without a first word doesn't begin with this one
  pub no_first_word : (text : List ℕ) (result : Result Line Stop) → next_word (Some text) ≡ None → ReadsBy first meaning Has text result
  no_first_word text result e = λ u. absurd (none (part_before 32 text) (rest_behind 32 text) e (λ n. omega (arith, is_first.0.1, ap length (sym n ∙ u))))
    where
      none : (part : List ℕ) (behind : Option (List ℕ)) → some_word part behind ≡ None → (part ≡ [] → ⊥) → ⊥
      none [] behind e some = some refl
      none (byte ∷ part) behind e some = none-some (byte ∷ part, behind) (sym e)

  -- nor does one that says nothing
  pub blank_no_word : (text : List ℕ) (result : Result Line Stop) → is_blank text ≡ true → ReadsBy first meaning Has text result
  unfolding part_before
  blank_no_word [] result blank = λ u. absurd (omega (arith, is_first.0.1, ap length u))
  blank_no_word (byte ∷ text) result blank =
      let is : byte ≡ 35 = grind (arith, nat_tests, blank) in
      let no_space : (byte == 32) ≡ false = grind (arith, nat_tests, is) in
      λ u. absurd (is_first.1 (sym (ap (λ w. slice_index_or w 0 0) (sym (cond-false _ _ _ no_space) ∙ u)) ∙ is))

  -- a line that stops its reading for another reason than want of memory is a bad one
  pub refused_by_word : (text : List ℕ) (stop : Stop) → stop ≢ Memory → ReadsBy first meaning Has text (Err stop) → ReadsBy first meaning Has text (Err BadLine)
  refused_by_word text BadLine other reads = reads
  refused_by_word text Memory other reads = absurd (other refl)
  refused_by_word text ReadFault other reads = λ u. absurd (reads u)
  refused_by_word text WriteFault other reads = λ u. absurd (reads u)
