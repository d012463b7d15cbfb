-- A well-formed text has fewer characters than a `usize` counts.
use Rattle.std.proofs.Common.{◌≡◌, ℕ, ◌+◌, ◌^◌, ◌<◌, ◌≤◌, Bool, true, List, [], ◌∷◌, length, map, take, drop, sym, ap, ◌∙◌, arith, length-drop}
use Rattle.std.specs.Prelude.{nat_lt, nat_le, sum_by}
use Rattle.std.specs.Str.{is_utf8}
use Rattle.std.proofs.lemmas.Bool.{and_parts, ltb-true, leb-true}
use Rattle.std.proofs.lemmas.List.Sums.{sum_by-cons}
use Rattle.model.specs.declared.FullNodeId.{FullNodeId}
use Rattle.model.specs.World.{World}
use Rattle.schema.specs.RunFits.{is_cut_by}
use Rattle.model.specs.TextRuns.{SentRun, sent_runs, run_value, said_count, are_cut, is_password, supports_text_ranges}
use Rattle.model.specs.FlatText.{FlatText, shown_character, needs_masking, shown_run, flat_text, count, count_in, start_of, total, offset, Position, IsPosition}
use Rattle.model.proofs.Text.TextFacts.{is_text, start_next}
use Rattle.model.proofs.Text.Sides.{start_rises}
use Rattle.views.specs.declared.runs.Run.{Run}
use Rattle.texts.specs.declared.position.TextPosition.{TextPosition}
use Rattle.views.specs.Runs.{run_world, root_id, text_root_of, sent_of, IsPreviousRun}
use Rattle.text_boundaries.specs.RunNumbers.{number_in}
use Rattle.texts.specs.Positions.{root_at, node_text, position_text, flat_position}
use Rattle.text_boundaries.proofs.FlatRuns.{cut_count, count_at_number, number_previous}
use Rattle.texts.proofs.FlatPositions.{is_position}
use Rattle.texts.proofs.CharacterMoves.{start_of_all}

lengths_fit : (bs ns : List ℕ) → is_cut_by bs ns ≡ true → length ns ≤ length bs
lengths_fit bs [] e = omega arith
lengths_fit bs (n ∷ ns) e =
    let a = and_parts (nat_lt 0 n) _ e in
    let b = and_parts (nat_le n (length bs)) _ a.1 in
    let c = and_parts (is_utf8 (take n bs)) _ b.1 in
    let low : 0 < n = ltb-true _ _ a.0 in
    let high : n ≤ length bs = leb-true _ _ b.0 in
    let rest : length ns ≤ length (drop n bs) = lengths_fit (drop n bs) ns c.1 in
    omega (arith, low, high, rest, length-drop n bs)

module _ (w : World) (root : FullNodeId) (password masked : Bool) where
  runs_fit : (runs : List SentRun) → are_cut runs ≡ true → total (map (shown_run w root password masked) runs) ≤ sum_by (λ r. length (run_value r)) runs
  runs_fit [] e = omega arith
  runs_fit (r ∷ runs) e =
      let c = and_parts (is_cut_by (run_value r) r.node.character_lengths) _ e in
      let one : length r.node.character_lengths ≤ length (run_value r) = lengths_fit (run_value r) r.node.character_lengths c.0 in
      let counted : count (shown_run w root password masked r) ≡ length r.node.character_lengths = cut_count (shown_character masked) (run_value r) r.node.character_lengths in
      let rest = runs_fit runs c.1 in
      omega (arith, one, counted, rest, sum_by-cons count (shown_run w root password masked r) (map (shown_run w root password masked) runs), sum_by-cons (λ (s : SentRun). length (run_value s)) r runs)

pub text_fits : (w : World) (root : FullNodeId) → supports_text_ranges w root ≡ true → total (flat_text w root) < 2 ^ 64
unfolding flat_text
text_fits w root e =
    let text = is_text w root e in
    let small = ltb-true (sum_by (λ r. length (run_value r)) (sent_runs w root)) (2 ^ 64) text.size in
    let fit = runs_fit w root (is_password w root) (needs_masking w root) (sent_runs w root) text.cut in
    omega (arith, small, fit)

within_total : (t : FlatText) (p : Position) → IsPosition t p → offset t p ≤ total t
within_total t p is =
    let rise = start_rises t (p.run + 1) (length t) (let r = is.run in omega (arith, r)) in
    let index = is.index in
    omega (arith, rise, index, start_next t p.run, start_of_all t)

module _ (p : TextPosition) where
  pub offset_fits : offset (position_text p) (flat_position p) < 2 ^ 64
  offset_fits = let small = text_fits (run_world p.run) (root_id p.run) p.text in let le = within_total (position_text p) (flat_position p) (is_position p) in omega (arith, small, le)

  -- what is left to add, before the run before
  pub one_less : (r s : Run) (before count : ℕ) → text_root_of r ≡ root_at p → IsPreviousRun r s → count ≡ said_count (sent_of s) →
      before + start_of (position_text p) (number_in r) ≡ offset (position_text p) (flat_position p) → before + count + start_of (position_text p) (number_in s) ≡ offset (position_text p) (flat_position p)
  one_less r s before count same back is summed =
      let counted : count ≡ count_in (position_text p) (number_in s) = is ∙ sym (count_at_number s) ∙ ap (λ n. count_in (node_text n) (number_in s)) (back.root ∙ same) in
      let at : start_of (position_text p) (number_in s + 1) ≡ start_of (position_text p) (number_in r) = ap (start_of (position_text p)) (number_previous r s back) in
      omega (arith, counted, at, summed, start_next (position_text p) (number_in s))
