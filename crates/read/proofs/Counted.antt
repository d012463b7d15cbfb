-- Characters that are counted, or shown as bullets, one by one.
use Rattle.std.proofs.Common.{◌≡◌, ◌<◌, ◌^◌, ℕ, suc, ◌+◌, List, [], ◌∷◌, ◌++◌, length, append_assoc, append-nil, arith, sym, ap, ◌∙◌}
use Rattle.std.specs.Prelude.{◌-◌}
use Rattle.model.specs.FlatText.{BULLET}
use Rattle.model.specs.Values.{bullets}
use Rattle.texts.specs.RangeCuts.{Located}
use Rattle.read.specs.Shown.{further}

module _ (left rest : List Located) (l : Located) (is : left ≡ l ∷ rest) where
  pub next_bullet : (text whole : List ℕ) → text ++ bullets (length left) ≡ whole → (text ++ BULLET) ++ bullets (length rest) ≡ whole
  next_bullet text whole so_far = append_assoc text BULLET (bullets (length rest)) ∙ sym (ap (λ ls. text ++ bullets (length ls)) is) ∙ so_far

  pub next_count : (count whole : ℕ) → further count (length left) ≡ whole → further (further count 1) (length rest) ≡ whole
  next_count count whole so_far = one_more count (length rest) ∙ sym (ap (λ ls. further count (length ls)) is) ∙ so_far
    where
      one_more : (k n : ℕ) → further (further k 1) n ≡ further k (suc n)
      one_more k n = omega arith

module _ (left : List Located) (none : left ≡ []) where
  pub all_bullets : (text whole : List ℕ) → text ++ bullets (length left) ≡ whole → text ≡ whole
  all_bullets text whole so_far = sym (append-nil text) ∙ sym (ap (λ ls. text ++ bullets (length ls)) none) ∙ so_far

  pub all_counted : (count whole : ℕ) → count < 2 ^ 64 → further count (length left) ≡ whole → count ≡ whole
  all_counted count whole low so_far = small count low ∙ sym (ap (λ ls. further count (length ls)) none) ∙ so_far
    where
      small : (k : ℕ) → k < 2 ^ 64 → k ≡ further k 0
      small k h = omega (arith, h)
