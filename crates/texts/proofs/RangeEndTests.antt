-- Whether a position is before the end of a range, looked for from the start of the range on.
use Rattle.std.proofs.Common.{◌≡◌, ℕ, ◌<◌, ◌≤◌, Bool, true, false, [], length, refl, sym, ap, subst, ◌∙◌, arith}
use Rattle.std.specs.Prelude.{◌↔◌, nat_lt}
use Rattle.std.proofs.lemmas.Bool.{lt-ltb, le-ltb, ltb-true, ltb-false}
use Rattle.model.specs.declared.FullNodeId.{FullNodeId}
use Rattle.model.specs.FlatText.{IsPosition, offset, start_of, biased_to_start}
use Rattle.model.proofs.Text.TextFacts.{start_bias}
use Rattle.model.proofs.Text.Sides.{IsOnStartSide, start_bias_side}
use Rattle.views.specs.declared.runs.Run.{Run}
use Rattle.views.specs.Runs.{text_root_of, run_id, ids_after, IsAfter}
use Rattle.views.proofs.Focusing.{is_not}
use Rattle.texts.specs.declared.position.TextPosition.{TextPosition}
use Rattle.texts.specs.declared.range.TextRange.{TextRange}
use Rattle.text_boundaries.specs.RunNumbers.{number_in, text_around}
use Rattle.texts.specs.Positions.{IsPositionAt, root_at, node_text, position_text, flat_position}
use Rattle.texts.specs.TextRanges.{text_in, range_at}
use Rattle.texts.proofs.CharacterTests.{same_test}
use Rattle.text_boundaries.proofs.FlatRuns.{runs_counted, last_number, number_next}
use Rattle.texts.proofs.FlatPositions.{is_position}
use Rattle.texts.proofs.RangeRuns.{one_number, one_id, range_whole, end_is_position, start_is_position}
use Rattle.texts.proofs.RunOrder.{runs_tell}
use Rattle.texts.proofs.TextEnds.{then_at}

at_most_if : (a b : ℕ) → (b < a → ⊥) → a ≤ b
at_most_if a b off = go (nat_lt b a) refl
  where
    go : (c : Bool) → nat_lt b a ≡ c → a ≤ b
    go true e = absurd (off (ltb-true b a e))
    go false e = ltb-false b a e

module _ (a b : Run) (same : text_root_of a ≡ text_root_of b) (x y : FullNodeId) (t : Bool) (xs : x ≡ run_id a) (ys : y ≡ run_id b) (tested : (t ≡ true) ↔ (x ≡ y)) where
  one : t ≡ true → number_in a ≡ number_in b
  one is = one_number a b same (sym xs ∙ tested.0 is ∙ ys)

  apart : t ≡ false → number_in a ≡ number_in b → ⊥
  apart is e = is_not t (x ≡ y) tested is (xs ∙ one_id a b same e ∙ sym ys)

-- the runs from the start of a range up to this one are neither past a position nor past the start side of the end
pub record IsUpToBoth (r : TextRange) (p e : TextPosition) (k : Run) : Type 0 where
  pub same : text_root_of k ≡ r.root
  pub position : number_in k ≤ number_in p.run
  pub end : number_in k ≤ number_in e.run

module _ (r : TextRange) (p s e : TextPosition) (root : root_at p ≡ r.root) (side : biased_to_start (text_in r) (flat_position p) ≡ flat_position p)
    (ends : IsPositionAt r.root (range_at r).end s) (end_side : IsPositionAt (root_at s) (biased_to_start (position_text s) (flat_position s)) e) where
  last : IsPositionAt r.root (biased_to_start (text_in r) (range_at r).end) e
  last = then_at biased_to_start r.root (range_at r).end s e ends end_side

  there : IsPosition (text_in r) (flat_position p)
  there = subst (λ n. IsPosition (node_text n) (flat_position p)) root (is_position p)

  p_side : IsOnStartSide (text_in r) (flat_position p)
  p_side = subst (IsOnStartSide (text_in r)) side (start_bias_side (text_in r) (flat_position p) (range_whole r) there)

  e_side : IsOnStartSide (text_in r) (flat_position e)
  e_side = subst (IsOnStartSide (text_in r)) (sym last.at) (start_bias_side (text_in r) (range_at r).end (range_whole r) (end_is_position r))

  e_offset : offset (text_in r) (flat_position e) ≡ offset (text_in r) (range_at r).end
  e_offset = ap (offset (text_in r)) last.at ∙ start_bias (text_in r) (range_at r).end

  module _ (past : offset (text_in r) (range_at r).start < offset (text_in r) (flat_position p)) (z a : TextPosition)
      (starts : IsPositionAt r.root (range_at r).start z) (start_bias_at : IsPositionAt (root_at z) (biased_to_start (position_text z) (flat_position z)) a) where
    first : IsPositionAt r.root (biased_to_start (text_in r) (range_at r).start) a
    first = then_at biased_to_start r.root (range_at r).start z a starts start_bias_at

    a_side : IsOnStartSide (text_in r) (flat_position a)
    a_side = subst (IsOnStartSide (text_in r)) (sym first.at) (start_bias_side (text_in r) (range_at r).start (range_whole r) (start_is_position r))

    a_offset : offset (text_in r) (flat_position a) ≡ offset (text_in r) (range_at r).start
    a_offset = ap (offset (text_in r)) first.at ∙ start_bias (text_in r) (range_at r).start

    pub begins_up_to : IsUpToBoth r p e a.run
    begins_up_to = record {
      same = first.same;
      position = at_most_if (number_in a.run) (number_in p.run) (λ less. let told = runs_tell (text_in r) (flat_position p) (flat_position a) p_side a_side less in omega (arith, told, a_offset, past));
      end = at_most_if (number_in a.run) (number_in e.run) (λ less.
          let told = runs_tell (text_in r) (flat_position e) (flat_position a) e_side a_side less in
          let order : offset (text_in r) (range_at r).start ≤ offset (text_in r) (range_at r).end = r.order in
          omega (arith, told, a_offset, e_offset, order));
    }

  module _ (k : Run) (upto : IsUpToBoth r p e k) (x y : FullNodeId) (t : Bool) (xs : x ≡ run_id k) (ys : y ≡ run_id p.run) (tested : (t ≡ true) ↔ (x ≡ y)) where
    k_p : text_root_of k ≡ text_root_of p.run
    k_p = upto.same ∙ sym root

    k_e : text_root_of k ≡ text_root_of e.run
    k_e = upto.same ∙ sym last.same

    short : t ≡ false → number_in k < number_in p.run
    short is = let le = upto.position in let off = apart k p.run k_p x y t xs ys tested is in omega (arith, le, off)

    -- no run is past it
    pub not_last : t ≡ false → ids_after k ≡ [] → {A : Type 0} → A
    not_last is none =
        let less = short is in
        let size : length (text_around k) ≡ length (text_around p.run) = ap (λ n. length (node_text n)) k_p in
        absurd (omega (arith, less, last_number k none, size, runs_counted p.run))

    module _ (u v : FullNodeId) (b : Bool) (us : u ≡ run_id k) (vs : v ≡ run_id e.run) (met : (b ≡ true) ↔ (u ≡ v)) where
      -- the end's run is met before the position's
      pub end_first : t ≡ false → b ≡ true → false ≡ nat_lt (offset (text_in r) (flat_position p)) (offset (text_in r) (range_at r).end)
      end_first is here =
          let less = short is in
          let at = one k e.run k_e u v b us vs met here in
          let told = runs_tell (text_in r) (flat_position e) (flat_position p) e_side p_side (omega (arith, less, at)) in
          sym (le-ltb (offset (text_in r) (flat_position p)) (offset (text_in r) (range_at r).end) (omega (arith, told, e_offset)))

      pub goes_on : t ≡ false → b ≡ false → (n : Run) → IsAfter k n → IsUpToBoth r p e n
      goes_on is other n after =
          let less = short is in
          let le = upto.end in
          let off = apart k e.run k_e u v b us vs met other in
          let next = number_next k n after in
          record { same = after.root ∙ upto.same; position = omega (arith, less, next); end = omega (arith, le, off, next) }

      -- the position's run is met first
      pub position_first : t ≡ true → b ≡ false → true ≡ nat_lt (offset (text_in r) (flat_position p)) (offset (text_in r) (range_at r).end)
      position_first is other =
          let at = one k p.run k_p x y t xs ys tested is in
          let le = upto.end in
          let off = apart k e.run k_e u v b us vs met other in
          let told = runs_tell (text_in r) (flat_position p) (flat_position e) p_side e_side (omega (arith, at, le, off)) in
          sym (lt-ltb (offset (text_in r) (flat_position p)) (offset (text_in r) (range_at r).end) (omega (arith, told, e_offset)))

      -- both are in one run
      pub in_one_run : t ≡ true → b ≡ true → nat_lt p.index e.index ≡ nat_lt (offset (text_in r) (flat_position p)) (offset (text_in r) (range_at r).end)
      in_one_run is here =
          let at : number_in p.run ≡ number_in e.run = sym (one k p.run k_p x y t xs ys tested is) ∙ one k e.run k_e u v b us vs met here in
          let starts : start_of (text_in r) (number_in p.run) ≡ start_of (text_in r) (number_in e.run) = ap (start_of (text_in r)) at in
          same_test p.index e.index (offset (text_in r) (flat_position p)) (offset (text_in r) (range_at r).end) (λ less. omega (arith, less, starts, e_offset)) (λ less. omega (arith, less, starts, e_offset))
