-- Searches for where lines and paragraphs begin and end, run by run.
use Rattle.std.proofs.Common.{◌≡◌, ℕ, ◌+◌, ◌-◌, ◌<◌, Bool, true, false, cond, [], length, Some, refl, sym, ap, ◌∙◌, arith, eq-eqb}
use Rattle.std.specs.Prelude.{◌==◌, ◌||◌}
use Rattle.std.proofs.lemmas.Bool.{eqb-true}
use Rattle.model.specs.FlatText.{FlatText, flat_text, first_run, last_run, begins_line, begins_paragraph, closes_paragraph}
use Rattle.model.specs.TextLaws.{IsWhole}
use Rattle.model.specs.TextRuns.{supports_text_ranges}
use Rattle.model.proofs.Text.TextFacts.{is_text}
use Rattle.model.proofs.Text.WholeTexts.{whole_text}
use Rattle.model.proofs.Text.Searching.{first_next, last_next}
use Rattle.views.specs.declared.runs.Run.{Run}
use Rattle.text_boundaries.specs.declared.Mark.{Mark}
use Rattle.text_boundaries.specs.declared.Mark.TheVariants.{Line, Paragraph}
use Rattle.views.specs.Runs.{run_world, root_id, text_root_of, ids_after, ids_before, IsAfter, IsPreviousRun}
use Rattle.text_boundaries.specs.RunNumbers.{number_in, text_around}
use Rattle.views.specs.declared.node.node_ref.NodeRef.{NodeRef}
use Rattle.views.specs.Nodes.{world_at, id_at}
use Rattle.text_boundaries.specs.Marks.{begins_at, ends_at, closes_at}
use Rattle.text_boundaries.proofs.FlatRuns.{runs_counted, last_number, first_number, number_next, number_previous, more_runs}

pub turned : (r s : Run) → IsPreviousRun r s → IsAfter s r
turned r s before = record { root = sym before.root; after = before.after; before = before.before }

pub differ_tested : (a b : ℕ) → a < b → (a == b) ≡ false
differ_tested a b less = go (a == b) refl
  where
    go : (c : Bool) → (a == b) ≡ c → (a == b) ≡ false
    go true e = absurd (let same : a ≡ b = eqb-true a b e in omega (arith, same, less))
    go false e = e

above_tested : (a b : ℕ) → b < a → (a == b) ≡ false
above_tested a b less = go (a == b) refl
  where
    go : (c : Bool) → (a == b) ≡ c → (a == b) ≡ false
    go true e = absurd (let same : a ≡ b = eqb-true a b e in omega (arith, same, less))
    go false e = e

or_true : (a b : Bool) → b ≡ true → (a || b) ≡ true
or_true true b e = refl
or_true false b e = e

module _ (t : FlatText) where
  closing_ends : (m : Mark) (r : ℕ) → closes_at m t r ≡ true → ends_at m t r ≡ true
  closing_ends Line r e = e
  closing_ends Paragraph r e = or_true (r + 1 == length t) (closes_paragraph t r) e

  last_one_ends : IsWhole t → (m : Mark) (r : ℕ) → r + 1 ≡ length t → ends_at m t r ≡ true
  last_one_ends whole Line r e = whole.last_ends r e
  last_one_ends whole Paragraph r e = ap (λ b. b || closes_paragraph t r) (eq-eqb (r + 1) (length t) e)

  open_goes_on : (m : Mark) (r : ℕ) → r + 1 < length t → closes_at m t r ≡ false → ends_at m t r ≡ false
  open_goes_on Line r more e = e
  open_goes_on Paragraph r more e = ap (λ b. b || closes_paragraph t r) (differ_tested (r + 1) (length t) more) ∙ e

  first_one_begins : IsWhole t → (m : Mark) (r : ℕ) → r ≡ 0 → begins_at m t r ≡ true
  first_one_begins whole Line r e = ap (begins_line t) e ∙ whole.first_begins
  first_one_begins whole Paragraph r e = ap (begins_paragraph t) e

  pub begins_later : (r k : ℕ) → r ≡ k + 1 → closes_paragraph t k ≡ begins_paragraph t r
  begins_later r k e =
      let back : r - 1 ≡ k = omega (arith, e) in
      sym (ap (λ b. b || closes_paragraph t (r - 1)) (above_tested r 0 (omega (arith, e))) ∙ ap (closes_paragraph t) back)

module _ (self : Run) (text : supports_text_ranges (run_world self) (root_id self) ≡ true) where
  whole : IsWhole (text_around self)
  whole = whole_text (run_world self) (root_id self) (is_text (run_world self) (root_id self) text)

  module _ (run : Run) (same : text_root_of run ≡ text_root_of self) where
    same_length : length (text_around run) ≡ length (text_around self)
    same_length = ap (λ (n : NodeRef). length (flat_text (world_at n) (id_at n))) same

    in_text : number_in run < length (text_around self)
    in_text = let n = runs_counted run in omega (arith, n, same_length)

    abbrev forth : Mark → ℕ → Bool
    forth m = ends_at m (text_around self)

    abbrev back : Mark → ℕ → Bool
    back m = begins_at m (text_around self)

    step_forth : (m : Mark) (b : Bool) → forth m (number_in run) ≡ b →
        first_run (text_around self) (number_in run) (forth m) ≡ cond b (Some (number_in run)) (first_run (text_around self) (number_in run + 1) (forth m))
    step_forth m b e =
        first_next (length (text_around self)) (number_in run) (forth m) in_text ∙ ap (λ x. cond x (Some (number_in run)) (first_run (text_around self) (number_in run + 1) (forth m))) e

    step_back : (m : Mark) (b : Bool) → back m (number_in run) ≡ b →
        last_run (text_around self) (number_in run + 1) (back m) ≡ cond b (Some (number_in run)) (last_run (text_around self) (number_in run) (back m))
    step_back m b e =
        last_next (length (text_around self)) (number_in run) (back m) in_text ∙ ap (λ x. cond x (Some (number_in run)) (last_run (text_around self) (number_in run) (back m))) e

    pub closes_here : (m : Mark) → closes_at m (text_around run) (number_in run) ≡ true → first_run (text_around self) (number_in run) (ends_at m (text_around self)) ≡ Some (number_in run)
    closes_here m e = step_forth m true (closing_ends (text_around self) m (number_in run) (sym (ap (λ (n : NodeRef). closes_at m (flat_text (world_at n) (id_at n)) (number_in run)) same) ∙ e))

    pub ends_here : (m : Mark) → ids_after run ≡ [] → first_run (text_around self) (number_in run) (ends_at m (text_around self)) ≡ Some (number_in run)
    ends_here m e = step_forth m true (last_one_ends (text_around self) whole m (number_in run) (last_number run e ∙ same_length))

    pub ends_later : (m : Mark) (s : Run) → IsAfter run s → closes_at m (text_around run) (number_in run) ≡ false →
        first_run (text_around self) (number_in run) (ends_at m (text_around self)) ≡ first_run (text_around self) (number_in s) (ends_at m (text_around self))
    ends_later m s after e =
        step_forth m false (open_goes_on (text_around self) m (number_in run) (let more = more_runs run s after in omega (arith, more, same_length)) (sym (ap (λ (n : NodeRef). closes_at m (flat_text (world_at n) (id_at n)) (number_in run)) same) ∙ e))
        ∙ ap (λ k. first_run (text_around self) k (forth m)) (sym (number_next run s after))

    pub begins_here : (m : Mark) → begins_at m (text_around run) (number_in run) ≡ true → last_run (text_around self) (number_in run + 1) (begins_at m (text_around self)) ≡ Some (number_in run)
    begins_here m e = step_back m true (sym (ap (λ (n : NodeRef). begins_at m (flat_text (world_at n) (id_at n)) (number_in run)) same) ∙ e)

    pub starts_here : (m : Mark) → ids_before run ≡ [] → last_run (text_around self) (number_in run + 1) (begins_at m (text_around self)) ≡ Some (number_in run)
    starts_here m e = step_back m true (first_one_begins (text_around self) whole m (number_in run) (first_number run e))

    pub begins_before : (m : Mark) (s : Run) → IsPreviousRun run s → begins_at m (text_around run) (number_in run) ≡ false →
        last_run (text_around self) (number_in run + 1) (begins_at m (text_around self)) ≡ last_run (text_around self) (number_in s + 1) (begins_at m (text_around self))
    begins_before m s before e =
        step_back m false (sym (ap (λ (n : NodeRef). begins_at m (flat_text (world_at n) (id_at n)) (number_in run)) same) ∙ e) ∙ ap (λ k. last_run (text_around self) k (back m)) (sym (number_previous run s before))
