-- The pieces of a range, one after another, and when it has nothing in it.
use Rattle.std.proofs.Common.{◌≡◌, ℕ, suc, ◌+◌, ◌-◌, ◌<◌, ◌≤◌, Bool, true, false, [], ◌∷◌, map, refl, sym, ap, ◌∙◌, arith}
use Rattle.std.specs.Prelude.{◌==◌, nat_lt, if◌then◌else◌}
use Rattle.std.specs.List.{range_with_len}
use Rattle.std.proofs.lemmas.Bool.{eqb-true, eqb-false, ltb-true, ltb-false}
use Rattle.model.specs.FlatText.{FlatText, count_in, start_of, Position, IsPosition, offset, biased_to_start, biased_to_end, start_side}
use Rattle.model.specs.Ranges.{Range, is_degenerate, piece_in, caret_piece, visited_runs, pieces}
use Rattle.model.specs.TextLaws.{IsWhole}
use Rattle.model.proofs.Text.TextFacts.{start_next, start_bias, end_bias}
use Rattle.model.proofs.Text.Sides.{start_rises, end_bias_side, start_side_of_bias}
use Rattle.texts.specs.Pieces.{last_passed, pieces_past}

-- ---- whether there is something in a range

module _ (t : FlatText) (r : Range) where
  abbrev pub start_side_of : Position
  start_side_of = biased_to_start t r.start

  abbrev pub end_start_side_of : Position
  end_start_side_of = biased_to_start t r.end

  abbrev pub end_side_of : Position
  end_side_of = biased_to_end t r.end

  -- its ends are at one place exactly if their start sides are one position
  pub apart_by_run : IsWhole t → IsPosition t r.start → IsPosition t r.end → (start_side_of.run ≡ end_start_side_of.run → ⊥) → false ≡ is_degenerate t r
  apart_by_run whole s e apart = go (is_degenerate t r) refl
    where
      go : (b : Bool) → is_degenerate t r ≡ b → false ≡ b
      go false h = refl
      go true h =
          let one : offset t r.start ≡ offset t r.end = eqb-true _ _ h in
          absurd (apart (ap (λ p. p.run) (sym (start_side_of_bias t r.start whole s) ∙ ap (λ o. start_side t o) one ∙ start_side_of_bias t r.end whole e)))

  pub one_run_one_place : start_side_of.run ≡ end_start_side_of.run → (start_side_of.index == end_start_side_of.index) ≡ is_degenerate t r
  one_run_one_place same = go (start_side_of.index == end_start_side_of.index) refl (is_degenerate t r) refl
    where
      place : start_of t start_side_of.run ≡ start_of t end_start_side_of.run
      place = ap (start_of t) same

      go : (a : Bool) → (start_side_of.index == end_start_side_of.index) ≡ a → (b : Bool) → is_degenerate t r ≡ b → a ≡ b
      go true f true g = refl
      go false f false g = refl
      go true f false g = absurd (eqb-false _ _ g (let i : start_side_of.index ≡ end_start_side_of.index = eqb-true _ _ f in omega (arith, place, i, start_bias t r.start, start_bias t r.end)))
      go false f true g = absurd (eqb-false _ _ f (let o : offset t r.start ≡ offset t r.end = eqb-true _ _ g in omega (arith, place, o, start_bias t r.start, start_bias t r.end)))

  -- ---- piece after piece

  -- a range with something in it goes from the run of the start to that of the end
  pub runs_in_order : IsWhole t → IsPosition t r.start → IsPosition t r.end → offset t r.start ≤ offset t r.end → is_degenerate t r ≡ false → start_side_of.run ≤ end_side_of.run
  runs_in_order whole s e le some = go (nat_lt end_side_of.run start_side_of.run) refl
    where
      go : (b : Bool) → nat_lt end_side_of.run start_side_of.run ≡ b → start_side_of.run ≤ end_side_of.run
      go false f = let h = ltb-false _ _ f in omega (arith, h)
      go true f =
          absurd (eqb-false _ _ some (
          let h : end_side_of.run < start_side_of.run = ltb-true _ _ f in
          let up = start_rises t (end_side_of.run + 1) start_side_of.run (omega (arith, h)) in
          let index : end_side_of.index ≤ count_in t end_side_of.run = (end_bias_side t r.end whole e).index in
          omega (arith, up, index, start_next t end_side_of.run, start_bias t r.start, end_bias t r.end, le)))

  pub last_of_caret : is_degenerate t r ≡ true → last_passed t r ≡ r.start.run
  last_of_caret e = ap (λ b. if b then r.start.run else end_side_of.run) e

  pub last_of_some : is_degenerate t r ≡ false → last_passed t r ≡ end_side_of.run
  last_of_some e = ap (λ b. if b then r.start.run else end_side_of.run) e

  pub none_past_last : (k : ℕ) → k ≡ last_passed t r → pieces_past t r k ≡ []
  none_past_last k is = let none : last_passed t r - k ≡ 0 = omega (arith, is) in ap (λ n. map (piece_in t r) (range_with_len (k + 1) n)) none

  pub caret_alone : is_degenerate t r ≡ true → pieces t r ≡ caret_piece r ∷ pieces_past t r r.start.run
  caret_alone e = ap (λ b. if b then caret_piece r ∷ [] else map (piece_in t r) (visited_runs t r)) e ∙ ap (λ ps. caret_piece r ∷ ps) (sym (none_past_last r.start.run (sym (last_of_caret e))))

  pub first_in_range : (k : ℕ) → k ≡ start_side_of.run → start_side_of.run ≤ end_side_of.run → is_degenerate t r ≡ false → pieces t r ≡ piece_in t r k ∷ pieces_past t r k
  first_in_range k is le e =
      let last = last_of_some e in
      let many : end_side_of.run + 1 - k ≡ suc (last_passed t r - k) = omega (arith, is, le, last) in
      ap (λ b. if b then caret_piece r ∷ [] else map (piece_in t r) (visited_runs t r)) e
      ∙ ap (λ q. map (piece_in t r) (range_with_len q (end_side_of.run + 1 - q))) (sym is)
      ∙ ap (λ n. map (piece_in t r) (range_with_len k n)) many

  pub next_in_range : (k j : ℕ) → j ≡ k + 1 → k < last_passed t r → pieces_past t r k ≡ piece_in t r j ∷ pieces_past t r j
  next_in_range k j is less =
      let many : last_passed t r - k ≡ suc (last_passed t r - j) = omega (arith, is, less) in
      ap (λ q. map (piece_in t r) (range_with_len q (last_passed t r - k))) (sym is)
      ∙ ap (λ n. map (piece_in t r) (range_with_len j n)) many

  -- ---- where a piece begins and ends in its run

  pub piece_order : IsPosition t r.start → IsPosition t r.end → offset t r.start ≤ offset t r.end → (k : ℕ) → (piece_in t r k).from ≤ (piece_in t r k).to
  piece_order s e le k = go (r.start.run == k) refl (r.end.run == k) refl
    where
      go : (a : Bool) → (r.start.run == k) ≡ a → (b : Bool) → (r.end.run == k) ≡ b → (if a then r.start.index else 0) ≤ (if b then r.end.index else count_in t k)
      go false f b g = omega arith
      go true f true g =
          let i : r.start.run ≡ k = eqb-true _ _ f in
          let j : r.end.run ≡ k = eqb-true _ _ g in
          omega (arith, le, ap (start_of t) i, ap (start_of t) j)
      go true f false g =
          let i : r.start.run ≡ k = eqb-true _ _ f in
          let index = s.index in
          omega (arith, index, ap (count_in t) i)

  pub piece_within : IsPosition t r.end → (k : ℕ) → (piece_in t r k).to ≤ count_in t k
  piece_within e k = go (r.end.run == k) refl
    where
      go : (b : Bool) → (r.end.run == k) ≡ b → (if b then r.end.index else count_in t k) ≤ count_in t k
      go false g = omega arith
      go true g = let j : r.end.run ≡ k = eqb-true _ _ g in let index = e.index in omega (arith, index, ap (count_in t) j)
