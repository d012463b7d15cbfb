-- How far along a run its characters are, and the last of them that lies somewhere.
use Rattle.std.proofs.Common.{◌≡◌, ℕ, suc, ◌+◌, ◌*◌, ◌^◌, ◌<◌, ◌≤◌, Bool, true, false, cond, List, [], ◌∷◌, length, take, reverse, Option, Some, None, refl, sym, ap, subst, ◌∙◌, arith}
use Rattle.std.specs.Prelude.{ℤ, pos, negsuc, neg_ℤ, ◌+ℤ◌, ◌*ℤ◌, min, find}
use Rattle.std.specs.List.{range_with_len}
use Rattle.std.proofs.Math.IntN.{pos-*ℤ-pos, pos-*ℤ-negsuc}
use Rattle.std.proofs.lemmas.Int.{ints}
use Rattle.std.proofs.lemmas.Nat.{mul-le}
use Rattle.std.proofs.lemmas.List.FromFn.{length-range_with_len}
use Rattle.model.specs.FlatText.{Metrics}
use Rattle.model.specs.Geometry.{is_between}
use Rattle.model.specs.Points.{character_at}
use Rattle.model.specs.Ranges.{place, width}
use Rattle.model.proofs.Text.Searching.{last_of, last_next}
use Rattle.texts.specs.Measures.{IsMetricStep, IsAlong}

small_along : (n : ℕ) → n ≤ 2 ^ 96 → IsAlong 0 (pos n) × IsAlong 0 (neg_ℤ (pos n))
small_along n h = ((omega (arith, ints), omega (arith, ints)), (omega (arith, ints), omega (arith, ints)))

-- so many steps don't go far
pub steps_along : (k : ℕ) (z : ℤ) → k < 2 ^ 64 → IsMetricStep z → IsAlong 0 (pos k *ℤ z)
steps_along k (pos n) few step =
    let narrow : n ≤ 2 ^ 32 = omega (arith, ints, step.1) in
    subst (IsAlong 0) (sym (pos-*ℤ-pos k n)) (small_along (k * n) (mul-le k n (2 ^ 64) (2 ^ 32) (omega (arith, few)) narrow)).0
steps_along k (negsuc n) few step =
    let narrow : suc n ≤ 2 ^ 32 = omega (arith, ints, step.0) in
    subst (IsAlong 0) (sym (pos-*ℤ-negsuc k n)) (small_along (k * suc n) (mul-le k (suc n) (2 ^ 64) (2 ^ 32) (omega (arith, few)) narrow)).1

take_all : (xs : List ℕ) → take (length xs) xs ≡ xs
take_all [] = refl
take_all (x ∷ xs) = ap (λ ys. x ∷ ys) (take_all xs)

module _ (m : Metrics) (d : ℤ) where
  -- the character lies there
  abbrev pub lies : ℕ → Bool
  lies k = is_between (place m k) (place m k +ℤ width m k) d

  -- how many characters are told of
  abbrev pub told : ℕ
  told = min (length m.positions) (length m.widths)

  -- the last of the first so many that lies there
  abbrev pub last_in : ℕ → Option ℕ
  last_in many = last_of told many lies

  pub in_all : (n : ℕ) → n ≡ told → character_at m d ≡ last_in n
  in_all n e =
      let all : take told (range_with_len 0 told) ≡ range_with_len 0 told =
      sym (ap (λ k. take k (range_with_len 0 told)) (length-range_with_len 0 told)) ∙ take_all (range_with_len 0 told) in
      sym (ap (λ xs. find lies (reverse xs)) all) ∙ ap last_in (sym e)

  module _ (n k : ℕ) (one : n ≡ k + 1) (within : n ≤ told) where
    step_back : (b : Bool) → lies k ≡ b → last_in n ≡ cond b (Some k) (last_in k)
    step_back b e = ap last_in one ∙ last_next told k lies (omega (arith, one, within)) ∙ ap (λ x. cond x (Some k) (last_in k)) e

    pub lies_here : lies k ≡ true → last_in n ≡ Some k
    lies_here e = step_back true e

    pub lies_before : lies k ≡ false → last_in n ≡ last_in k
    lies_before e = step_back false e

  pub in_none : (n : ℕ) → n ≡ 0 → last_in n ≡ None
  in_none n e = ap last_in e
