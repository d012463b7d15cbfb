-- The range of a line, from run to run.
use Rattle.std.proofs.Common.{◌≡◌, ℕ, zero, suc, ◌+◌, ◌<◌, ◌≤◌, Bool, true, [], length, drop, Some, ◌-◌, refl, sym, ap, ◌∙◌, arith, add-one}
use Rattle.std.specs.Prelude.{None, nat_lt, Option, if◌then◌else◌, slice_get}
use Rattle.model.specs.TextRuns.{said_count, supports_text_ranges}
use Rattle.model.specs.FlatText.{Position, count_in, start_of, total, document_end, first_run, begins_line, ends_line, lines}
use Rattle.model.specs.Ranges.{Range}
use Rattle.model.specs.TextLaws.{IsWhole}
use Rattle.model.proofs.Text.TextFacts.{is_text}
use Rattle.model.proofs.Text.WholeTexts.{whole_text}
use Rattle.views.specs.declared.node.node_ref.NodeRef.{NodeRef}
use Rattle.views.specs.declared.runs.Run.{Run}
use Rattle.texts.specs.declared.position.TextPosition.{TextPosition}
use Rattle.texts.specs.declared.range.TextRange.{TextRange}
use Rattle.views.specs.Nodes.{world_at, id_at}
use Rattle.views.specs.Runs.{text_root_of, run_world, root_id, sent_of, ids_after, IsFirstOf, IsAfter}
use Rattle.text_boundaries.specs.RunNumbers.{number_in, text_around}
use Rattle.texts.specs.Positions.{root_at, node_text, flat_position, IsPositionAt}
use Rattle.texts.specs.Lines.{lines_from}
use Rattle.texts.specs.TextRanges.{IsRangeOf}
use Rattle.texts.specs.FoundRanges.{IsRangeFound}
use Rattle.text_boundaries.proofs.FlatRuns.{count_at_number, runs_counted, first_number, last_number, number_next, more_runs}
use Rattle.texts.proofs.FoundSteps.{range_absent}
use Rattle.texts.proofs.LineRanges.{IsHead, head_of, next_line, line_order, line_ends, line_is_empty, line_has_some, none_from}

module _ (r : Run) (text : supports_text_ranges (run_world r) (root_id r) ≡ true) where
  whole : IsWhole (text_around r)
  whole = whole_text (run_world r) (root_id r) (is_text (run_world r) (root_id r) text)

  within : number_in r < length (text_around r)
  within = let n = runs_counted r in omega (arith, n)

  abbrev caret : Range
  caret = record { start = document_end (text_around r); end = document_end (text_around r) }

  abbrev caret_where : Bool → Option Range
  caret_where b = if b then Some caret else None

  pub no_caret : (count : ℕ) → count ≡ said_count (sent_of r) → count ≡ 0 →
      IsRangeFound (run_world r) (root_id r) (caret_where (nat_lt (start_of (text_around r) (number_in r)) (total (text_around r)))) None
  no_caret count is none =
      let empty = line_is_empty (text_around r) whole (number_in r) within (count_at_number r ∙ sym is ∙ none) in
      range_absent (run_world r) (root_id r) (caret_where (nat_lt (start_of (text_around r) (number_in r)) (total (text_around r)))) (sym (ap caret_where empty))

  pub caret_found : (count : ℕ) (n : NodeRef) (p : TextPosition) (s : TextRange) → count ≡ said_count (sent_of r) → (count ≡ 0 → ⊥) → n ≡ text_root_of r → IsPositionAt n (document_end (node_text n)) p →
      IsRangeOf (world_at (root_at p)) (id_at (root_at p)) (let q : Range = record { start = flat_position p; end = flat_position p } in q) s →
      IsRangeFound (run_world r) (root_id r) (caret_where (nat_lt (start_of (text_around r) (number_in r)) (total (text_around r)))) (Some s)
  caret_found count n p s is some same there range =
      let counted : count_in (text_around r) (number_in r) ≡ count = count_at_number r ∙ sym is in
      let positive : 0 < count = above count some in
      let has = line_has_some (text_around r) whole (number_in r) within (omega (arith, counted, positive)) in
      record {
        world = range.world ∙ ap world_at (there.same ∙ same);
        root = range.root ∙ ap id_at (there.same ∙ same);
        at = ap Some (range.at ∙ ap (λ (q : Position). let z : Range = record { start = q; end = q } in z) (there.at ∙ ap (λ m. document_end (node_text m)) same)) ∙ sym (ap caret_where has);
      }
    where
      above : (k : ℕ) → (k ≡ 0 → ⊥) → 0 < k
      above zero some = absurd (some refl)
      above (suc k) some = omega arith

module _ (n : NodeRef) where
  -- the lines from this one on are those of the runs from this one on
  pub record IsAtLine (line : ℕ) (r : Run) : Type 0 where
    pub same : text_root_of r ≡ n
    pub begins : begins_line (node_text n) (number_in r) ≡ true
    pub left : drop line (lines (node_text n)) ≡ lines_from (node_text n) (number_in r)

  module _ (text : supports_text_ranges (world_at n) (id_at n) ≡ true) where
    all : IsWhole (node_text n)
    all = whole_text (world_at n) (id_at n) (is_text (world_at n) (id_at n) text)

    pub at_first_line : (r : Run) → IsFirstOf n r → IsAtLine 0 r
    at_first_line r first =
        let at = first_number r first.order in
        record { same = first.root; begins = ap (begins_line (node_text n)) at ∙ all.first_begins; left = sym (ap (lines_from (node_text n)) at) }

    pub text_here : (line : ℕ) (r : Run) → IsAtLine line r → supports_text_ranges (run_world r) (root_id r) ≡ true
    text_here line r at = ap (λ m. supports_text_ranges (world_at m) (id_at m)) at.same ∙ text

    module _ (line : ℕ) (r last : Run) (at : IsAtLine line r) (same : text_root_of last ≡ text_root_of r) (found : first_run (text_around r) (number_in r) (ends_line (text_around r)) ≡ Some (number_in last)) where
      ends : first_run (node_text n) (number_in r) (ends_line (node_text n)) ≡ Some (number_in last)
      ends = sym (ap (λ m. first_run (node_text m) (number_in r) (ends_line (node_text m))) at.same) ∙ found

      inside : number_in r < length (node_text n)
      inside = let c = runs_counted r in let e = ap (λ m. length (node_text m)) at.same in omega (arith, c, e)

      size_there : length (text_around last) ≡ length (node_text n)
      size_there = ap (λ m. length (node_text m)) (same ∙ at.same)

      here : IsHead (lines (node_text n)) line (number_in r, number_in last) (lines_from (node_text n) (number_in last + 1))
      here = head_of (lines (node_text n)) line (number_in r, number_in last) (lines_from (node_text n) (number_in last + 1)) (at.left ∙ next_line (node_text n) all (number_in r) (number_in last) inside at.begins ends)

      pub line_rises : number_in r ≤ number_in last
      line_rises = line_order (node_text n) all (number_in r) (number_in last) inside ends

      pub line_there : slice_get (lines (node_text n)) line ≡ Some (number_in r, number_in last)
      line_there = here.at

      pub no_more_lines : ids_after last ≡ [] → length (lines (text_around r)) ≡ line + 1
      no_more_lines e =
          let end = last_number last e in
          let none : length (lines_from (node_text n) (number_in last + 1)) ≡ 0 = ap length (none_from (node_text n) (number_in last + 1) (omega (arith, end, size_there))) in
          let moved : length (lines (text_around r)) ≡ length (lines (node_text n)) = ap (λ m. length (lines (node_text m))) at.same in
          omega (arith, none, here.size, moved)

      pub last_line : ids_after last ≡ [] → slice_get (lines (text_around r)) line ≡ Some (number_in r, length (text_around r) - 1)
      last_line e =
          let end = last_number last e in
          let back : number_in last ≡ length (text_around r) - 1 = (let q = ap (λ m. length (node_text m)) same in omega (arith, end, q)) in
          ap (λ m. slice_get (lines (node_text m)) line) at.same ∙ here.at ∙ ap (λ b. Some (number_in r, b)) back

      pub next_at_line : (s : Run) → IsAfter last s → IsAtLine (line + 1) s
      next_at_line s after =
          let next = number_next last s after in
          let more : number_in last + 1 < length (node_text n) = (let m = more_runs last s after in omega (arith, m, size_there)) in
          record {
            same = after.root ∙ same ∙ at.same;
            begins = ap (begins_line (node_text n)) next ∙ all.links (number_in last) more ∙ line_ends (node_text n) all (number_in r) (number_in last) inside ends;
            left = ap (λ k. drop k (lines (node_text n))) (add-one line) ∙ here.rest ∙ sym (ap (lines_from (node_text n)) next);
          }

      pub fewer_left : (s : Run) → IsAfter last s → length (ids_after s) < length (ids_after r)
      fewer_left s after =
          let next = number_next last s after in
          let a = runs_counted r in
          let b = runs_counted s in
          let c : length (text_around s) ≡ length (text_around r) = ap (λ m. length (node_text m)) (after.root ∙ same) in
          omega (arith, next, a, b, c, line_rises)
