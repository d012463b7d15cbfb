-- How many lines end before a run.
use Rattle.std.proofs.Common.{◌≡◌, ℕ, zero, suc, ◌+◌, ◌^◌, ◌<◌, ◌≤◌, Bool, true, false, [], length, take, get_or, Some, sym, ap, ◌∙◌, arith, add-one}
use Rattle.std.specs.Prelude.{not, count_by, slice_get}
use Rattle.std.specs.Option.{option_map_or}
use Rattle.std.proofs.lemmas.List.{length-take-le}
use Rattle.std.proofs.lemmas.Option.{get_or_from_slice_get, slice_get_within}
use Rattle.std.proofs.lemmas.List.Sums.{count_by-le-length, count_by_more_no, count_by_more_yes}
use Rattle.model.specs.FlatText.{FlatText, ShownRun, ends_line, start_of}
use Rattle.model.specs.Moves.{to_line_index}
use Rattle.model.specs.TextLaws.{IsWhole}
use Rattle.model.proofs.Text.TextFacts.{start_next}
use Rattle.views.specs.declared.runs.Run.{Run}
use Rattle.texts.specs.declared.position.TextPosition.{TextPosition}
use Rattle.views.specs.Runs.{text_root_of, ids_before, IsPreviousRun}
use Rattle.text_boundaries.specs.RunNumbers.{number_in, text_around}
use Rattle.texts.specs.Positions.{root_at, node_text, position_text, flat_position}
use Rattle.text_boundaries.proofs.FlatRuns.{shown_of, shown_at_number, first_number, number_previous}
use Rattle.texts.proofs.FlatPositions.{text_is_whole, is_position}
use Rattle.texts.proofs.TextSizes.{offset_fits}

abbrev pub lines_before : TextPosition → Run → ℕ
lines_before p r = count_by (λ (s : ShownRun). not s.goes_on) (take (number_in r) (position_text p))

numbers_small : (t : FlatText) → IsWhole t → (k : ℕ) → k < length t → k ≤ start_of t k
numbers_small t whole zero h = omega arith
numbers_small t whole (suc k) h =
    let rest = numbers_small t whole k (omega (arith, h)) in
    let some = whole.empty_last k (omega (arith, h)) in
    let next : start_of t (suc k) ≡ start_of t (k + 1) = ap (start_of t) (sym (add-one k)) in
    omega (arith, rest, some, next, start_next t k)

-- fewer than a `usize` counts
pub lines_fit : (p : TextPosition) → to_line_index (position_text p) (flat_position p) < 2 ^ 64
lines_fit p =
    let at = (is_position p).run in
    let some = numbers_small (position_text p) (text_is_whole p) (number_in p.run) at in
    let fits = offset_fits p in
    omega (arith, some, fits, count_by-le-length (λ (s : ShownRun). not s.goes_on) (take (number_in p.run) (position_text p)), length-take-le (number_in p.run) (position_text p) (omega (arith, at)))

pub none_before : (p : TextPosition) (r : Run) → ids_before r ≡ [] → lines_before p r ≡ 0
none_before p r first = ap (λ n. count_by (λ (s : ShownRun). not s.goes_on) (take n (position_text p))) (first_number r first)

module _ (p : TextPosition) (r s : Run) (same : text_root_of r ≡ root_at p) (back : IsPreviousRun r s) where
  there : slice_get (position_text p) (number_in s) ≡ Some (shown_of s)
  there = sym (ap (λ n. slice_get (node_text n) (number_in s)) (back.root ∙ same)) ∙ shown_at_number s

  within : number_in s < length (position_text p)
  within = slice_get_within (position_text p) (number_in s) (shown_of s) there

  tested : (b : Bool) → b ≡ ends_line (text_around s) (number_in s) → not (get_or (position_text p) (number_in s) (shown_of s)).goes_on ≡ b
  tested b is =
      ap (λ (x : ShownRun). not x.goes_on) (get_or_from_slice_get (position_text p) (number_in s) (shown_of s) (shown_of s) there)
      ∙ sym (is ∙ ap (λ o. option_map_or (λ (x : ShownRun). not x.goes_on) o false) (shown_at_number s))

  upto : lines_before p r ≡ count_by (λ (x : ShownRun). not x.goes_on) (take (number_in s + 1) (position_text p))
  upto = ap (λ n. count_by (λ (x : ShownRun). not x.goes_on) (take n (position_text p))) (sym (number_previous r s back))

  pub line_ends : (b : Bool) → b ≡ ends_line (text_around s) (number_in s) → b ≡ true → lines_before p r ≡ lines_before p s + 1
  line_ends b is e = upto ∙ count_by_more_yes (λ (x : ShownRun). not x.goes_on) (position_text p) (number_in s) (shown_of s) within (tested b is ∙ e)

  pub line_goes_on : (b : Bool) → b ≡ ends_line (text_around s) (number_in s) → b ≡ false → lines_before p r ≡ lines_before p s
  line_goes_on b is e = upto ∙ count_by_more_no (λ (x : ShownRun). not x.goes_on) (position_text p) (number_in s) (shown_of s) within (tested b is ∙ e)
