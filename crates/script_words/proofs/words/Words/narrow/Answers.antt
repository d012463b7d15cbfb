use Rattle.std.proofs.Common.{◌≡◌, ℕ, ◌<◌, ◌^◌, List, None, Ok, Err, Option, Result, Some, ap, refl, rules, subst, sym, ◌∙◌}
use Rattle.std.specs.Result.{OkIff, result_or}
use Rattle.script_words.specs.Meaning.{Takes, next_as, next_word, onward}
use Rattle.script_words.specs.Reading.{unread}
use Rattle.script_words.specs.WordValues.{kept_below, narrow_of, number_of}
use Rattle.script_words.specs.declared.stops.Stop.{Stop}
use Rattle.script_words.specs.declared.stops.Stop.TheVariants.{BadLine}
use Rattle.script_words.proofs.WordCuts.{one_taken}
use Rattle.script_words.proofs.WordMeanings.{below_kept, number_is}
use Rattle.script_words.proofs.words.Words.narrow.Goals as goal

-- a number that comes next, as `try_from` and `or` have it
narrow_taken : {E : Type 0} (line left : Option (List ℕ)) (word : List ℕ) (n : ℕ) (r : Result ℕ E) → next_word line ≡ Some (word, left) → Some n ≡ number_of word → OkIff r (n < 2 ^ 32) n
    → Takes (next_as narrow_of line) (result_or r (Err BadLine)) left
unfolding narrow_of
narrow_taken {E} line left word n r e is h =
    by r h (one_taken narrow_of line left word e ∙ ap (λ (o : Option ℕ). onward (onward o (kept_below (2 ^ 32))) (λ v. Some (v, left))) (sym is))
  where
    by : (r : Result ℕ E) → OkIff r (n < 2 ^ 32) n → next_as narrow_of line ≡ onward (kept_below (2 ^ 32) n) (λ v. Some (v, left)) → Takes (next_as narrow_of line) (result_or r (Err BadLine)) left
    by (Ok x) h k = k ∙ ap (λ (o : Option ℕ). onward o (λ v. Some (v, left))) (sym (below_kept {E = E} (2 ^ 32) n (Ok x) h))
    by (Err e) h k = (refl, k ∙ ap (λ (o : Option ℕ). onward o (λ v. Some (v, left))) (sym (below_kept {E = E} (2 ^ 32) n (Err e) h)))

pub returns-in_err-number-clause-takes : goal.returns-in_err-number-clause-takes
unfolding narrow_of
returns-in_err-number-clause-takes c =
    let word = c.in_ok-word.field-0.now in
    let none : next_as narrow_of (unread c.args.self.now) ≡ None =
    one_taken narrow_of _ (unread c.word.new.self) word c.in_ok-word.ensures.takes
    ∙ ap (λ (o : Option ℕ). onward (onward o (kept_below (2 ^ 32))) (λ v. Some (v, unread c.word.new.self))) (sym (number_is word c.number.result c.number.ensures.exact) ∙ c.in_err-number.ensures.ok_part) in
    search rules

pub returns-clause-takes : goal.returns-clause-takes
returns-clause-takes c =
    let word = c.in_ok-word.field-0.now in
    subst (λ (r : Result ℕ Stop). Takes (next_as narrow_of (unread c.args.self.now)) r (unread c.word.new.self)) (sym c.or.ensures)
    (narrow_taken (unread c.args.self.now) (unread c.word.new.self) word c.in_ok-number.number c.try_from.result c.in_ok-word.ensures.takes (sym c.in_ok-number.ensures.ok_part ∙ number_is word c.number.result c.number.ensures.exact) c.try_from.ensures)
