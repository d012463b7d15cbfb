-- The runs of a root as the runs of its flat text.
use Rattle.std.proofs.Common.{◌≡◌, ℕ, ◌+◌, ◌<◌, List, [], ◌∷◌, ◌++◌, length, map, drop, Some, refl, sym, ap, ◌∙◌, arith, suc, length-append}
use Rattle.std.specs.Prelude.{Bool, true, false, not, slice_get, Option, None, option_map, is_some, is_none}
use Rattle.std.specs.Option.{option_map_or}
use Rattle.std.proofs.lemmas.List.{length-map}
use Rattle.std.proofs.lemmas.Option.{slice_get-map}
use Rattle.model.specs.TextRuns.{sent_run, sent_runs, run_ids, cut_by, said_count, ends_with_newline, is_password}
use Rattle.model.specs.FlatText.{ShownRun, shown_character, needs_masking, shown_run, flat_text, count, count_in, begins_line, ends_line, run_has}
use Rattle.views.specs.declared.runs.Run.{Run}
use Rattle.views.specs.Runs.{run_world, root_id, run_id, sent_of, ids_after, ids_before, IsAfter, IsPreviousRun}
use Rattle.text_boundaries.specs.RunNumbers.{number_in, text_around}
use Rattle.views.proofs.FitRuns.{sent_known}

-- a test that isn't true exactly of what is there is true of nothing
pub none_from_not : {A : Type 0} (b : Bool) (o : Option A) → is_some o ≡ not b → b ≡ is_none o
none_from_not true None e = refl
none_from_not true (Some x) e = cc
none_from_not false None e = cc
none_from_not false (Some x) e = refl

behind : {A : Type 0} (xs : List A) (x : A) (ys : List A) → slice_get (xs ++ x ∷ ys) (length xs) ≡ Some x
behind [] x ys = refl
behind (y ∷ xs) x ys = behind xs x ys

pub cut_count : (g : List ℕ → List ℕ) (bs ns : List ℕ) → length (map g (cut_by bs ns)) ≡ length ns
cut_count g bs [] = refl
cut_count g bs (n ∷ ns) = ap suc (cut_count g (drop n bs) ns)

module _ (r : Run) where
  abbrev pub shown_of : ShownRun
  shown_of = shown_run (run_world r) (root_id r) (is_password (run_world r) (root_id r)) (needs_masking (run_world r) (root_id r)) (sent_of r)

  pub id_at_number : slice_get (run_ids (run_world r) (root_id r)) (number_in r) ≡ Some (run_id r)
  id_at_number = ap (λ ids. slice_get ids (number_in r)) (sym r.known.among) ∙ behind (ids_before r) (run_id r) (ids_after r)

  pub sent_at_number : slice_get (sent_runs (run_world r) (root_id r)) (number_in r) ≡ Some (sent_of r)
  sent_at_number =
      slice_get-map (sent_run (run_world r)) (run_ids (run_world r) (root_id r)) (number_in r) ∙ ap (option_map (sent_run (run_world r))) id_at_number ∙ ap Some (sent_known r)

  pub shown_at_number : slice_get (text_around r) (number_in r) ≡ Some shown_of
  unfolding flat_text
  shown_at_number =
      let show = shown_run (run_world r) (root_id r) (is_password (run_world r) (root_id r)) (needs_masking (run_world r) (root_id r)) in
      slice_get-map show (sent_runs (run_world r) (root_id r)) (number_in r) ∙ ap (option_map show) sent_at_number

  pub runs_counted : length (text_around r) ≡ number_in r + 1 + length (ids_after r)
  unfolding flat_text
  runs_counted =
      let show = shown_run (run_world r) (root_id r) (is_password (run_world r) (root_id r)) (needs_masking (run_world r) (root_id r)) in
      let ids = run_ids (run_world r) (root_id r) in
      length-map (sent_runs (run_world r) (root_id r)) show ∙ length-map ids (sent_run (run_world r))
      ∙ (let e = ap length r.known.among in let s = length-append (ids_before r) (run_id r ∷ ids_after r) in omega (arith, e, s))

  pub count_at_number : count_in (text_around r) (number_in r) ≡ said_count (sent_of r)
  count_at_number = ap (λ o. option_map_or count o 0) shown_at_number ∙ cut_count (shown_character (needs_masking (run_world r) (root_id r))) _ _

  pub begins_at_number : begins_line (text_around r) (number_in r) ≡ is_none (sent_of r).node.previous_on_line
  begins_at_number = ap (λ o. option_map_or (λ (s : ShownRun). not s.goes_back) o false) shown_at_number

  pub ends_at_number : ends_line (text_around r) (number_in r) ≡ is_none (sent_of r).node.next_on_line
  ends_at_number = ap (λ o. option_map_or (λ (s : ShownRun). not s.goes_on) o false) shown_at_number

  pub newline_at_number : run_has (λ s. s.has_newline) (text_around r) (number_in r) ≡ ends_with_newline (sent_of r)
  newline_at_number = ap (λ o. option_map_or (λ (s : ShownRun). s.has_newline) o false) shown_at_number

  pub last_number : ids_after r ≡ [] → number_in r + 1 ≡ length (text_around r)
  last_number e = let l = ap length e in omega (arith, runs_counted, l)

  pub first_number : ids_before r ≡ [] → number_in r ≡ 0
  first_number e = ap length e

  module _ (s : Run) where
    pub number_next : IsAfter r s → number_in s ≡ number_in r + 1
    number_next after = let e = ap length after.before in omega (arith, e, length-append (ids_before r) (run_id r ∷ []))

    pub more_runs : IsAfter r s → number_in r + 1 < length (text_around r)
    more_runs after = let e = ap length after.after in omega (arith, e, runs_counted)

    pub number_previous : IsPreviousRun r s → number_in s + 1 ≡ number_in r
    number_previous before = let e = ap length before.before in omega (arith, e, length-append (ids_before s) (run_id s ∷ []))
