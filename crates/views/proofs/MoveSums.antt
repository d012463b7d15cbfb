-- Sums of moves on the way up: what was added and what is left, and that the sum fits.
use Rattle.std.proofs.Common.{◌≡◌, ℕ, ◌+◌, ◌*◌, ◌^◌, ◌<◌, ◌≤◌, true, false, cond, List, [], ◌∷◌, length, refl, sym, ap, ◌∙◌, arith}
use Rattle.std.specs.Prelude.{ℤ, pos, neg_ℤ, ◌+ℤ◌, ◌≤ℤ◌, not, take_while, Option, Some, None, FitsSigned}
use Rattle.std.specs.Int.{w32}
use Rattle.std.specs.FinMap.{len}
use Rattle.std.proofs.Math.IntN.{+ℤ_assoc, +ℤ_idl, +ℤ_idr}
use Rattle.std.proofs.lemmas.Int.{ints}
use Rattle.std.proofs.lemmas.List.{length-map}
use Rattle.std.proofs.lemmas.List.Sums.{take_while-cons}
use Rattle.schema.specs.declared.geometry.Translation.{Translation}
use Rattle.schema.specs.declared.geometry.WideTranslation.{WideTranslation}
use Rattle.model.specs.declared.FullNodeId.{FullNodeId}
use Rattle.model.specs.World.{World, Place}
use Rattle.model.specs.Forest.{above, IsFormed}
use Rattle.model.specs.Lists.{ancestors}
use Rattle.model.specs.Upward.{upward}
use Rattle.model.specs.Geometry.{direct_transform, sum_of_moves, transform}
use Rattle.views.specs.Reach.{is_top, up_to_top, transform_to_top, IsInReach}
use Rattle.views.proofs.Climbing.{parent_of, parent_above, nothing_above, climb_is_shorter}
use Rattle.views.proofs.Depths.{depth_within_nodes}

-- without a top all above a node move it
all_passed : (xs : List FullNodeId) → take_while (λ a. true) xs ≡ xs
all_passed [] = refl
all_passed (x ∷ xs) = take_while-cons (λ a. true) x xs ∙ ap (λ ys. x ∷ ys) (all_passed xs)

pub without_top : (w : World) (id : FullNodeId) → transform_to_top w None id ≡ transform w id
without_top w id = ap (sum_of_moves w) (all_passed (upward w id))

abbrev pub IsWithin : ℕ → ℤ → Type 0
IsWithin n z = (neg_ℤ (pos (2 ^ 31 * n)) ≤ℤ z) × (z ≤ℤ pos (2 ^ 31 * n))

-- what was added, of so many nodes, and what is left to add
pub record IsSumSoFar (w : World) (top : Option FullNodeId) (start current : FullNodeId) (x y : ℤ) : Type 0 where
  pub passed : ℕ
  pub fewer : passed + length (ancestors w current) ≤ length (ancestors w start)
  pub across : IsWithin passed x
  pub along : IsWithin passed y
  pub sum_x : x +ℤ (transform_to_top w top current).x ≡ (transform_to_top w top start).x
  pub sum_y : y +ℤ (transform_to_top w top current).y ≡ (transform_to_top w top start).y

pub nothing_summed : (w : World) (top : Option FullNodeId) (start : FullNodeId) → IsSumSoFar w top start start (pos 0) (pos 0)
nothing_summed w top start = record {
  passed = 0;
  fewer = omega arith;
  across = (omega arith, omega arith);
  along = (omega arith, omega arith);
  sum_x = +ℤ_idl (transform_to_top w top start).x;
  sum_y = +ℤ_idl (transform_to_top w top start).y;
}

narrow_within : (n : ℕ) (x z : ℤ) → IsWithin n x → FitsSigned w32 z → IsWithin (n + 1) (x +ℤ z)
narrow_within n x z h f = (omega (arith, ints), omega (arith, ints))

within_reach : (n : ℕ) (z : ℤ) → n ≤ 2 ^ 64 → IsWithin n z → IsInReach z
within_reach n z l h = (omega (arith, ints), omega (arith, ints))

-- no way up has more nodes than there are
height_fits : (w : World) → len w.nodes < 2 ^ 64 → (id : FullNodeId) → length (ancestors w id) < 2 ^ 64
height_fits w few id = omega (arith, few, length-map (above w id) (λ (p : Place). p.0), depth_within_nodes w id)

module _ (w : World) (few : len w.nodes < 2 ^ 64) (top : Option FullNodeId) (start current : FullNodeId) where
  module _ (sum : WideTranslation) (h : IsSumSoFar w top start current sum.x sum.y) where
    passed_few : h.passed + 1 ≤ 2 ^ 64
    passed_few = omega (arith, h.fewer, height_fits w few start)

    pub so_far_x : IsInReach sum.x
    so_far_x = within_reach h.passed sum.x (omega (arith, passed_few)) h.across

    pub so_far_y : IsInReach sum.y
    so_far_y = within_reach h.passed sum.y (omega (arith, passed_few)) h.along

    -- at the top the sum is whole
    pub sum_to_top : is_top top current ≡ true → sum ≡ transform_to_top w top start
    sum_to_top e =
        let none : up_to_top w top current ≡ [] =
        take_while-cons (λ a. not (is_top top a)) current (ancestors w current) ∙ ap (λ b. cond (not b) (current ∷ take_while (λ a. not (is_top top a)) (ancestors w current)) []) e in
        let x : sum.x ≡ (transform_to_top w top start).x = sym (+ℤ_idr sum.x) ∙ ap (λ ids. sum.x +ℤ (sum_of_moves w ids).x) (sym none) ∙ h.sum_x in
        let y : sum.y ≡ (transform_to_top w top start).y = sym (+ℤ_idr sum.y) ∙ ap (λ ids. sum.y +ℤ (sum_of_moves w ids).y) (sym none) ∙ h.sum_y in
        λ i. record { x = x i; y = y i }

  module _ (own : Translation) (is : own ≡ direct_transform w current) (across : FitsSigned w32 own.x) (along : FitsSigned w32 own.y) (sum : WideTranslation) (h : IsSumSoFar w top start current sum.x sum.y) where
    pub in_reach_x : IsInReach (sum.x +ℤ own.x)
    in_reach_x = within_reach (h.passed + 1) (sum.x +ℤ own.x) (passed_few sum h) (narrow_within h.passed sum.x own.x h.across across)

    pub in_reach_y : IsInReach (sum.y +ℤ own.y)
    in_reach_y = within_reach (h.passed + 1) (sum.y +ℤ own.y) (passed_few sum h) (narrow_within h.passed sum.y own.y h.along along)

    module _ (formed : IsFormed w) (not_top : is_top top current ≡ false) where
      abbrev rest : List FullNodeId → List FullNodeId
      rest ids = take_while (λ a. not (is_top top a)) ids

      first_passed : up_to_top w top current ≡ current ∷ rest (ancestors w current)
      first_passed = take_while-cons (λ a. not (is_top top a)) current (ancestors w current) ∙ ap (λ b. cond (not b) (current ∷ rest (ancestors w current)) []) not_top

      rest_x : (sum.x +ℤ own.x) +ℤ (sum_of_moves w (rest (ancestors w current))).x ≡ (transform_to_top w top start).x
      rest_x =
          +ℤ_assoc sum.x own.x (sum_of_moves w (rest (ancestors w current))).x ∙ ap (λ (t : Translation). sum.x +ℤ (t.x +ℤ (sum_of_moves w (rest (ancestors w current))).x)) is
          ∙ ap (λ ids. sum.x +ℤ (sum_of_moves w ids).x) (sym first_passed) ∙ h.sum_x

      rest_y : (sum.y +ℤ own.y) +ℤ (sum_of_moves w (rest (ancestors w current))).y ≡ (transform_to_top w top start).y
      rest_y =
          +ℤ_assoc sum.y own.y (sum_of_moves w (rest (ancestors w current))).y ∙ ap (λ (t : Translation). sum.y +ℤ (t.y +ℤ (sum_of_moves w (rest (ancestors w current))).y)) is
          ∙ ap (λ ids. sum.y +ℤ (sum_of_moves w ids).y) (sym first_passed) ∙ h.sum_y

      -- at a root the sum is whole
      pub sum_is_whole : (v : World) → v ≡ w → None ≡ parent_of v current → record { x = sum.x +ℤ own.x; y = sum.y +ℤ own.y } ≡ transform_to_top w top start
      sum_is_whole v same none =
          let last : ancestors w current ≡ [] = nothing_above w formed current (none ∙ ap (λ u. parent_of u current) same) in
          let x : sum.x +ℤ own.x ≡ (transform_to_top w top start).x = sym (+ℤ_idr (sum.x +ℤ own.x)) ∙ ap (λ ids. (sum.x +ℤ own.x) +ℤ (sum_of_moves w (rest ids)).x) (sym last) ∙ rest_x in
          let y : sum.y +ℤ own.y ≡ (transform_to_top w top start).y = sym (+ℤ_idr (sum.y +ℤ own.y)) ∙ ap (λ ids. (sum.y +ℤ own.y) +ℤ (sum_of_moves w (rest ids)).y) (sym last) ∙ rest_y in
          λ i. record { x = x i; y = y i }

      -- and else it goes on from the parent
      pub sum_goes_on : (v : World) → v ≡ w → (q : FullNodeId) → Some q ≡ parent_of v current → IsSumSoFar w top start q (sum.x +ℤ own.x) (sum.y +ℤ own.y)
      sum_goes_on v same q parent =
          let up : Some q ≡ parent_of w current = parent ∙ ap (λ u. parent_of u current) same in
          record {
            passed = h.passed + 1;
            fewer = omega (arith, h.fewer, climb_is_shorter w formed current q up);
            across = narrow_within h.passed sum.x own.x h.across across;
            along = narrow_within h.passed sum.y own.y h.along along;
            sum_x = ap (λ ids. (sum.x +ℤ own.x) +ℤ (sum_of_moves w (rest ids)).x) (sym (parent_above w formed current q up)) ∙ rest_x;
            sum_y = ap (λ ids. (sum.y +ℤ own.y) +ℤ (sum_of_moves w (rest ids)).y) (sym (parent_above w formed current q up)) ∙ rest_y;
          }
