-- The position of a text at a point, case by case, and the runs that are looked at.
use Rattle.std.proofs.Common.{◌≡◌, ℕ, zero, suc, ◌+◌, ◌<◌, ◌≤◌, Bool, true, false, cond, List, [], ◌∷◌, length, map, Option, Some, None, sym, ap, ◌∙◌, arith}
use Rattle.std.specs.Prelude.{ℤ, slice_get, option_map, option_and_then, unwrap_or, if◌then◌else◌}
use Rattle.std.specs.Option.{option_map_or, option_or}
use Rattle.std.specs.List.{list_all}
use Rattle.std.proofs.lemmas.Bool.{and_parts, leb-true}
use Rattle.std.proofs.lemmas.Option.{slice_get_within, same_Some}
use Rattle.schema.specs.declared.geometry.Point.{Point}
use Rattle.model.specs.TextRuns.{SentRun, sent_run, sent_runs, run_ids, said_count, is_password, is_measured, is_enough, supports_text_ranges}
use Rattle.model.specs.FlatText.{FlatText, ShownRun, Metrics, shown_character, needs_masking, shown_run, flat_text, count, Position, end_at, document_start, document_end, last_run, run_has}
use Rattle.model.specs.Points.{is_in_run, is_ahead_of, is_past, index_at, position_at_point}
use Rattle.model.proofs.Text.TextFacts.{is_text}
use Rattle.model.proofs.Text.Searching.{last_next}
use Rattle.views.specs.declared.node.node_ref.NodeRef.{NodeRef}
use Rattle.views.specs.declared.runs.Run.{Run}
use Rattle.texts.specs.declared.points.PointTest.{PointTest}
use Rattle.texts.specs.declared.points.PointTest.TheVariants.{Inside, Past}
use Rattle.views.specs.Nodes.{world_at, id_at}
use Rattle.views.specs.Runs.{text_root_of, run_world, root_id, sent_of, ids_after, ids_before, IsFirstOf, IsPreviousRun}
use Rattle.text_boundaries.specs.RunNumbers.{number_in}
use Rattle.texts.specs.Positions.{node_text}
use Rattle.texts.specs.Measures.{shown_in}
use Rattle.texts.specs.PointTests.{passes, last_passing}
use Rattle.text_boundaries.proofs.FlatRuns.{shown_at_number, runs_counted, cut_count, first_number, last_number, number_previous, sent_at_number}

-- ---- a run as its text has it

pub count_shown : (r : Run) → count (shown_in r) ≡ said_count (sent_of r)
count_shown r = cut_count (shown_character (needs_masking (run_world r) (root_id r))) _ _

pub shown_there : (n : NodeRef) (r : Run) → text_root_of r ≡ n → slice_get (node_text n) (number_in r) ≡ Some (shown_in r)
shown_there n r same = sym (ap (λ m. slice_get (node_text m) (number_in r)) same) ∙ shown_at_number r

pub has_shown : (test : ShownRun → Bool) (n : NodeRef) (r : Run) → text_root_of r ≡ n → run_has test (node_text n) (number_in r) ≡ test (shown_in r)
has_shown test n r same = ap (λ o. option_map_or test o false) (shown_there n r same)

pub no_runs_empty : (n : NodeRef) → run_ids (world_at n) (id_at n) ≡ [] → node_text n ≡ []
unfolding flat_text
no_runs_empty n e =
    let w = world_at n in
    ap (λ ids. map (shown_run w (id_at n) (is_password w (id_at n)) (needs_masking w (id_at n))) (map (sent_run w) ids)) e

-- ---- the last run that passes, from the last one back

module _ (n : NodeRef) (test : PointTest) (point : Point) where
  abbrev tested : ℕ → Bool
  tested = run_has (passes test point) (node_text n)

  -- the last of the first so many
  abbrev pub last_before : ℕ → Option ℕ
  last_before many = last_run (node_text n) many tested

  pub none_passes : node_text n ≡ [] → last_passing n test point ≡ None
  none_passes e = ap (λ (t : FlatText). last_run t (length t) (run_has (passes test point) t)) e

  module _ (r : Run) (same : text_root_of r ≡ n) where
    in_text : number_in r < length (node_text n)
    in_text = let e = ap (λ m. length (node_text m)) same in omega (arith, e, runs_counted r)

    pub from_last : ids_after r ≡ [] → last_passing n test point ≡ last_before (number_in r + 1)
    from_last e = let l : length (node_text n) ≡ number_in r + 1 = sym (ap (λ m. length (node_text m)) same) ∙ sym (last_number r e) in ap last_before l

    step_back : (b : Bool) → passes test point (shown_in r) ≡ b → last_before (number_in r + 1) ≡ cond b (Some (number_in r)) (last_before (number_in r))
    step_back b e =
        last_next (length (node_text n)) (number_in r) tested in_text
        ∙ ap (λ x. cond x (Some (number_in r)) (last_before (number_in r))) (has_shown (passes test point) n r same ∙ e)

    pub passes_here : passes test point (shown_in r) ≡ true → last_before (number_in r + 1) ≡ Some (number_in r)
    passes_here e = step_back true e

    pub passes_before : (s : Run) → IsPreviousRun r s → passes test point (shown_in r) ≡ false → last_before (number_in r + 1) ≡ last_before (number_in s + 1)
    passes_before s before e = step_back false e ∙ ap last_before (sym (number_previous r s before))

    pub passes_nowhere : ids_before r ≡ [] → passes test point (shown_in r) ≡ false → last_before (number_in r + 1) ≡ None
    passes_nowhere first e = step_back false e ∙ ap last_before (first_number r first)

-- ---- the position, case by case

module _ (t : FlatText) (point : Point) where
  abbrev inside : Option ℕ
  inside = last_run t (length t) (run_has (is_in_run point) t)

  abbrev past : Option ℕ
  past = last_run t (length t) (run_has (is_past point) t)

  abbrev ahead : Bool
  ahead = run_has (is_ahead_of point) t 0

  abbrev chosen : Option Position → Bool → Option ℕ → Position
  chosen o b l = unwrap_or (option_or o (option_or (if b then Some document_start else None) (option_map (end_at t) l))) (document_end t)

  abbrev in_run : ℕ → Option Position
  in_run r = option_map (λ s. record { run = r; index = index_at point s }) (slice_get t r)

  pub found_inside : (r : ℕ) (s : ShownRun) → inside ≡ Some r → slice_get t r ≡ Some s → (let p : Position = record { run = r; index = index_at point s } in p) ≡ position_at_point t point
  unfolding position_at_point
  found_inside r s e at =
      sym (ap (λ o. chosen (option_and_then in_run o) ahead past) e
      ∙ ap (λ o. chosen (option_map (λ (s : ShownRun). let p : Position = record { run = r; index = index_at point s } in p) o) ahead past) at)

  module _ (none : inside ≡ None) where
    pub found_ahead : ahead ≡ true → document_start ≡ position_at_point t point
    unfolding position_at_point
    found_ahead e = sym (ap (λ o. chosen (option_and_then in_run o) ahead past) none ∙ ap (λ b. chosen None b past) e)

    pub found_past : (r : ℕ) → ahead ≡ false → past ≡ Some r → end_at t r ≡ position_at_point t point
    unfolding position_at_point
    found_past r e is = sym (ap (λ o. chosen (option_and_then in_run o) ahead past) none ∙ ap (λ b. chosen None b past) e ∙ ap (chosen None false) is)

    pub found_nowhere : ahead ≡ false → past ≡ None → document_end t ≡ position_at_point t point
    unfolding position_at_point
    found_nowhere e is = sym (ap (λ o. chosen (option_and_then in_run o) ahead past) none ∙ ap (λ b. chosen None b past) e ∙ ap (chosen None false) is)

-- ---- the same by runs

module _ (n : NodeRef) (point : Point) where
  abbrev pub place : ℕ → ℕ → Position
  place r k = record { run = r; index = k }

  pub at_inside : (r : Run) (k : ℕ) → text_root_of r ≡ n → Some (number_in r) ≡ last_passing n Inside point → k ≡ index_at point (shown_in r) → place (number_in r) k ≡ position_at_point (node_text n) point
  at_inside r k same found e = ap (place (number_in r)) e ∙ found_inside (node_text n) point (number_in r) (shown_in r) (sym found) (shown_there n r same)

  module _ (none : last_passing n Inside point ≡ None) where
    pub first_tested : (r : Run) → IsFirstOf n r → run_has (is_ahead_of point) (node_text n) 0 ≡ is_ahead_of point (shown_in r)
    first_tested r first = ap (run_has (is_ahead_of point) (node_text n)) (sym (first_number r first.order)) ∙ has_shown (is_ahead_of point) n r first.root

    pub at_start : (r : Run) → IsFirstOf n r → is_ahead_of point (shown_in r) ≡ true → place (number_in r) 0 ≡ position_at_point (node_text n) point
    at_start r first e = ap (λ k. place k 0) (first_number r first.order) ∙ found_ahead (node_text n) point none (first_tested r first ∙ e)

    module _ (beyond : run_has (is_ahead_of point) (node_text n) 0 ≡ false) where
      pub at_past : (r : Run) (k : ℕ) → text_root_of r ≡ n → Some (number_in r) ≡ last_passing n Past point → k ≡ count (shown_in r) → place (number_in r) k ≡ position_at_point (node_text n) point
      at_past r k same found e =
          ap (place (number_in r)) (e ∙ sym (ap (λ o. option_map_or count o 0) (shown_there n r same))) ∙ found_past (node_text n) point none (number_in r) beyond (sym found)

      pub at_document_end : None ≡ last_passing n Past point → document_end (node_text n) ≡ position_at_point (node_text n) point
      at_document_end e = found_nowhere (node_text n) point none beyond (sym e)

-- ---- no more is told of a run than it has characters

member_passes : (p : SentRun → Bool) (xs : List SentRun) (k : ℕ) (x : SentRun) → list_all p xs ≡ true → slice_get xs k ≡ Some x → p x ≡ true
member_passes p [] k x e at = absurd (let h = slice_get_within [] k x at in omega (arith, h))
member_passes p (y ∷ ys) zero x e at = let same : y ≡ x = cc in ap p (sym same) ∙ (and_parts (p y) _ e).0
member_passes p (y ∷ ys) (suc k) x e at = member_passes p ys k x (and_parts (p y) _ e).1 at

pub told_within : (r : Run) (ps : List ℤ) → supports_text_ranges (run_world r) (root_id r) ≡ true → (sent_of r).node.character_positions ≡ Some ps → length ps ≤ said_count (sent_of r)
told_within r ps text sent =
    let w = run_world r in
    let password = is_password w (root_id r) in
    let measured : is_measured password (sent_of r) ≡ true = member_passes (is_measured password) (sent_runs w (root_id r)) (number_in r) (sent_of r) (is_text w (root_id r) text).metrics (sent_at_number r) in
    let enough : is_enough password (said_count (sent_of r)) (length ps) ≡ true =
    sym (ap (λ o. option_map_or (λ (ks : List ℤ). is_enough password (said_count (sent_of r)) (length ks)) o true) sent) ∙ (and_parts _ _ measured).0 in
    leb-true _ _ (and_parts _ _ enough).0

positions_first : (password : Bool) (ps ws : Option (List ℤ)) (m : Metrics) → Some m ≡ option_and_then (λ xs. option_map (λ ys. let k : Metrics = record { positions = xs; widths = ys; are_alike = password } in k) ws) ps → ps ≡ Some m.positions
positions_first password None ws m e = cc
positions_first password (Some xs) None m e = cc
positions_first password (Some xs) (Some ys) m e = ap (λ (k : Metrics). Some k.positions) (sym (same_Some m (record { positions = xs; widths = ys; are_alike = password }) e))

pub measured_within : (r : Run) (m : Metrics) → supports_text_ranges (run_world r) (root_id r) ≡ true → Some m ≡ (shown_in r).metrics → length m.positions ≤ said_count (sent_of r)
measured_within r m text e =
    told_within r m.positions text (positions_first (is_password (run_world r) (root_id r)) (sent_of r).node.character_positions (sent_of r).node.character_widths m e)
