-- The common filter on its way up.
use Rattle.std.proofs.Common.{◌≡◌, Bool, true, false, cond, not, ◌&&◌, ◌||◌, List, [], ◌∷◌, Option, Some, None, refl, sym, ap, subst, ◌∙◌}
use Rattle.std.specs.Prelude.{find, is_none, take_while, unwrap_or}
use Rattle.std.specs.Option.{option_map_or}
use Rattle.std.specs.List.{list_any}
use Rattle.std.proofs.lemmas.List.Sums.{take_while-cons}
use Rattle.model.specs.declared.FullNodeId.{FullNodeId}
use Rattle.model.specs.declared.filters.FilterResult.{FilterResult}
use Rattle.model.specs.declared.filters.FilterResult.TheVariants.{Include, ExcludeNode, ExcludeSubtree}
use Rattle.schema.specs.NodeData.{NodeData}
use Rattle.model.specs.World.{World, data_of}
use Rattle.model.specs.Forest.{IsFormed}
use Rattle.model.specs.Lists.{ancestors}
use Rattle.model.specs.Upward.{says, says_upward, upward}
use Rattle.model.specs.Covers.{is_included, is_cut_off, filtered_parent}
use Rattle.model.specs.Geometry.{bounding_box}
use Rattle.model.specs.FocusFound.{is_focused}
use Rattle.model.specs.Filters.{is_hidden, is_transparent, first_answer, base_filter, is_far_outside, is_clipped_by, is_clipped, answer_at, common_filter}
use Rattle.model.proofs.Views.ViewFacts.{clipped_on_the_way}
use Rattle.views.specs.declared.node.node_ref.NodeRef.{NodeRef}
use Rattle.views.specs.Nodes.{world_at, id_at}
use Rattle.views.specs.FocusedOne.{IsFocusedOne, is_passed, clipped_from}
use Rattle.views.proofs.Climbing.{parent_of, parent_above, nothing_above, rest_above, climb_finds, climb_goes_on, climb_ends}

-- ---- what is settled, by its three tests

abbrev by_tests : Bool → Bool → Bool → Option FilterResult
by_tests f h t = cond f (Some Include) (cond h (Some ExcludeSubtree) (cond t (Some ExcludeNode) None))

unhidden : (f h t : Bool) → by_tests f h t ≡ None → h ≡ false
unhidden true h t e = cc
unhidden false true t e = cc
unhidden false false t e = refl

base_by_tests : (f h t : Bool) → h ≡ false → is_included (unwrap_or (by_tests f h t) Include) ≡ not (not f && t)
base_by_tests true h t e = refl
base_by_tests false true t e = cc
base_by_tests false false true e = refl
base_by_tests false false false e = refl

passed_by_tests : (f h t : Bool) → h ≡ false → (not f && t) ≡ true → by_tests f h t ≡ Some ExcludeNode
passed_by_tests true h t e p = cc
passed_by_tests false true t e p = cc
passed_by_tests false false true e p = refl
passed_by_tests false false false e p = cc

open_by_tests : (f h t : Bool) → h ≡ false → (not f && t) ≡ false → f ≡ false → by_tests f h t ≡ None
open_by_tests true h t e p g = cc
open_by_tests false true t e p g = cc
open_by_tests false false true e p g = cc
open_by_tests false false false e p g = refl

or_later : (a b : Bool) → (a || b) ≡ false → b ≡ false
or_later true b e = cc
or_later false b e = e

module _ (w : World) where
  pub unsettled_is_seen : (id : FullNodeId) → first_answer w id ≡ None → is_hidden w id ≡ false
  unsettled_is_seen id e = unhidden (is_focused w id) (is_hidden w id) (is_transparent w id) e

  base_includes : (id : FullNodeId) → is_hidden w id ≡ false → is_included (base_filter w id) ≡ not (is_passed w id)
  base_includes id e = base_by_tests (is_focused w id) (is_hidden w id) (is_transparent w id) e

  focused_settled : (id : FullNodeId) → is_focused w id ≡ true → first_answer w id ≡ Some Include
  focused_settled id e = ap (λ f. by_tests f (is_hidden w id) (is_transparent w id)) e

  clipped_step : (id : FullNodeId) (ids : List FullNodeId) → first_answer w id ≡ None → clipped_from w (id ∷ ids) ≡ (is_clipped w id || clipped_from w ids)
  clipped_step id ids e =
      ap (list_any (is_clipped w)) (take_while-cons (λ a. is_none (first_answer w a)) id ids ∙ ap (λ o. cond (is_none o) (id ∷ take_while (λ a. is_none (first_answer w a)) ids) []) e)

  clipped_stop : (id : FullNodeId) (ids : List FullNodeId) (r : FilterResult) → first_answer w id ≡ Some r → clipped_from w (id ∷ ids) ≡ false
  clipped_stop id ids r e =
      ap (list_any (is_clipped w)) (take_while-cons (λ a. is_none (first_answer w a)) id ids ∙ ap (λ o. cond (is_none o) (id ∷ take_while (λ a. is_none (first_answer w a)) ids) []) e)

module _ (w : World) (formed : IsFormed w) (v : World) (same : v ≡ w) (id : FullNodeId) where
  -- ---- with a parent

  module _ (q : FullNodeId) (parent : Some q ≡ parent_of v id) where
    above_is : ancestors w id ≡ upward w q
    above_is = parent_above w formed id q (parent ∙ ap (λ u. parent_of u id) same)

    pub parent_is_seen : is_hidden w id ≡ false → is_hidden w q ≡ false
    parent_is_seen seen = or_later (says (λ d. d.hidden) w id) (is_hidden w q) (sym (ap (λ ids. says (λ d. d.hidden) w id || list_any (says (λ d. d.hidden) w) ids) above_is) ∙ seen)

    pub base_finds : is_hidden w id ≡ false → is_passed w q ≡ false → filtered_parent (base_filter w) w id ≡ Some q
    base_finds seen kept = climb_finds w formed v same (λ a. is_included (base_filter w a)) id q parent (base_includes w q (parent_is_seen seen) ∙ ap not kept)

    pub base_goes_on : is_hidden w id ≡ false → is_passed w q ≡ true → filtered_parent (base_filter w) w id ≡ filtered_parent (base_filter w) w q
    base_goes_on seen passed = climb_goes_on w formed v same (λ a. is_included (base_filter w a)) id q parent (base_includes w q (parent_is_seen seen) ∙ ap not passed)

    module _ (unsettled : first_answer w id ≡ None) where
      seen : is_hidden w id ≡ false
      seen = unsettled_is_seen w id unsettled

      step : clipped_from w (upward w id) ≡ (is_clipped w id || clipped_from w (upward w q))
      step = clipped_step w id (ancestors w id) unsettled ∙ ap (λ ids. is_clipped w id || clipped_from w ids) above_is

      or_nothing : (a : Bool) → (a || false) ≡ a
      or_nothing true = refl
      or_nothing false = refl

      -- the parent is passed: the way ends, and the base rule's parent is above
      pub way_passed : is_passed w q ≡ true → (o : Option FullNodeId) → o ≡ filtered_parent (base_filter w) w q → option_map_or (λ p. is_clipped_by w p id) o false ≡ clipped_from w (upward w id)
      way_passed passed o found =
          let here : is_clipped w id ≡ option_map_or (λ p. is_clipped_by w p id) o false = ap (λ x. option_map_or (λ p. is_clipped_by w p id) x false) (base_goes_on seen passed ∙ sym found) in
          let stop : clipped_from w (upward w q) ≡ false = clipped_stop w q (ancestors w q) ExcludeNode (passed_by_tests (is_focused w q) (is_hidden w q) (is_transparent w q) (parent_is_seen seen) passed) in
          sym (step ∙ ap (λ b. is_clipped w id || b) stop ∙ or_nothing (is_clipped w id) ∙ here)

      module _ (kept : is_passed w q ≡ false) where
        by_parent : clipped_from w (upward w id) ≡ (is_clipped_by w q id || clipped_from w (upward w q))
        by_parent = step ∙ ap (λ o. option_map_or (λ p. is_clipped_by w p id) o false || clipped_from w (upward w q)) (base_finds seen kept)

        pub way_clipped : is_clipped_by w q id ≡ true → true ≡ clipped_from w (upward w id)
        way_clipped e = sym (by_parent ∙ ap (λ b. b || clipped_from w (upward w q)) e)

        pub way_on : is_clipped_by w q id ≡ false → clipped_from w (upward w id) ≡ clipped_from w (upward w q)
        way_on e = by_parent ∙ ap (λ b. b || clipped_from w (upward w q)) e

        pub way_focused : is_clipped_by w q id ≡ false → is_focused w q ≡ true → false ≡ clipped_from w (upward w id)
        way_focused e f = sym (way_on e ∙ clipped_stop w q (ancestors w q) Include (focused_settled w q f))

        pub parent_unsettled : is_focused w q ≡ false → first_answer w q ≡ None
        parent_unsettled f = open_by_tests (is_focused w q) (is_hidden w q) (is_transparent w q) (parent_is_seen seen) kept f

  -- ---- without one

  pub base_ends : None ≡ parent_of v id → filtered_parent (base_filter w) w id ≡ None
  base_ends none = climb_ends w formed v same (λ a. is_included (base_filter w a)) id none

  pub way_ends : first_answer w id ≡ None → None ≡ parent_of v id → false ≡ clipped_from w (upward w id)
  way_ends unsettled none =
      sym (clipped_step w id (ancestors w id) unsettled
      ∙ ap (λ ids. is_clipped w id || clipped_from w ids) (nothing_above w formed id (none ∙ ap (λ u. parent_of u id) same))
      ∙ ap (λ o. option_map_or (λ p. is_clipped_by w p id) o false || false) (base_ends none))

-- ---- the answer

pub answer_on_the_way : (w : World) → IsFormed w → (id : FullNodeId) (clipped : Bool) → None ≡ first_answer w id → clipped ≡ clipped_from w (upward w id) → cond clipped ExcludeSubtree Include ≡ common_filter w id
answer_on_the_way w formed id clipped e is = ap (λ b. cond b ExcludeSubtree Include) is ∙ sym (clipped_on_the_way w formed id (sym e))

-- ---- where nothing is hidden or clips

pub or_first : (a b : Bool) → (a || b) ≡ false → a ≡ false
or_first true b e = cc
or_first false b e = refl

neither : (a b : Bool) → a ≡ false → b ≡ false → (a || b) ≡ false
neither true b e f = cc
neither false b e f = f

none_by_less : (p q : FullNodeId → Bool) → ((x : FullNodeId) → p x ≡ false → q x ≡ false) → (xs : List FullNodeId) → list_any p xs ≡ false → list_any q xs ≡ false
none_by_less p q less [] e = refl
none_by_less p q less (x ∷ xs) e = neither (q x) (list_any q xs) (less x (or_first (p x) (list_any p xs) e)) (none_by_less p q less xs (or_later (p x) (list_any p xs) e))

none_taken : (q g : FullNodeId → Bool) (xs : List FullNodeId) → list_any q xs ≡ false → list_any q (take_while g xs) ≡ false
none_taken q g [] e = refl
none_taken q g (x ∷ xs) e = ap (list_any q) (take_while-cons g x xs) ∙ by_test (g x) (none_taken q g xs (or_later (q x) (list_any q xs) e))
  where
    by_test : (b : Bool) → list_any q (take_while g xs) ≡ false → list_any q (cond b (x ∷ take_while g xs) []) ≡ false
    by_test true later = neither (q x) (list_any q (take_while g xs)) (or_first (q x) (list_any q xs) e) later
    by_test false later = refl

-- what is found is no node that fails
found_fails : (p c : FullNodeId → Bool) (more : FullNodeId → Bool) (xs : List FullNodeId) → list_any c xs ≡ false → option_map_or (λ r. c r && more r) (find p xs) false ≡ false
found_fails p c more [] e = refl
found_fails p c more (x ∷ xs) e = by_test (p x) (found_fails p c more xs (or_later (c x) (list_any c xs) e))
  where
    by_test : (b : Bool) → option_map_or (λ r. c r && more r) (find p xs) false ≡ false → option_map_or (λ r. c r && more r) (cond b (Some x) (find p xs)) false ≡ false
    by_test true later = ap (λ b. b && more x) (or_first (c x) (list_any c xs) e)
    by_test false later = later

module _ (w : World) (formed : IsFormed w) where
  unclipped_here : (up : List FullNodeId) (id : FullNodeId) → ancestors w id ≡ up → list_any (says (λ d. d.clips_children) w) up ≡ false → is_clipped w id ≡ false
  unclipped_here up id above none =
      ap (λ xs. option_map_or (λ p. is_clipped_by w p id) (find (λ a. is_included (base_filter w a)) xs) false) above
      ∙ found_fails (λ a. is_included (base_filter w a)) (says (λ d. d.clips_children) w) (λ p. option_map_or (λ frame. is_far_outside w frame id) (bounding_box w p) false) up none

  unclipped : (up : List FullNodeId) (id : FullNodeId) → ancestors w id ≡ up → list_any (says (λ d. d.clips_children) w) up ≡ false → list_any (is_clipped w) (id ∷ up) ≡ false
  unclipped [] id above none = neither (is_clipped w id) false (unclipped_here [] id above none) refl
  unclipped (q ∷ up) id above none =
      neither (is_clipped w id) (list_any (is_clipped w) (q ∷ up)) (unclipped_here (q ∷ up) id above none)
      (unclipped up q (rest_above w formed id q up above) (or_later (says (λ d. d.clips_children) w q) (list_any (says (λ d. d.clips_children) w) up) none))

  module _ (id : FullNodeId) (free : says_upward (λ d. d.hidden || d.clips_children) w id ≡ false) where
    data_free : (x : FullNodeId) (o : Option NodeData) → data_of w x ≡ o → says (λ d. d.hidden || d.clips_children) w x ≡ false → (says (λ d. d.hidden) w x ≡ false) × (says (λ d. d.clips_children) w x ≡ false)
    data_free x None at e = (ap (λ o. option_map_or (λ d. d.hidden) o false) at, ap (λ o. option_map_or (λ d. d.clips_children) o false) at)
    data_free x (Some d) at e =
        let both : (d.hidden || d.clips_children) ≡ false = sym (ap (λ o. option_map_or (λ d. d.hidden || d.clips_children) o false) at) ∙ e in
        (ap (λ o. option_map_or (λ d. d.hidden) o false) at ∙ or_first d.hidden d.clips_children both, ap (λ o. option_map_or (λ d. d.clips_children) o false) at ∙ or_later d.hidden d.clips_children both)

    free_is_seen : is_hidden w id ≡ false
    free_is_seen = none_by_less (says (λ d. d.hidden || d.clips_children) w) (says (λ d. d.hidden) w) (λ x e. (data_free x (data_of w x) refl e).0) (upward w id) free

    free_is_unclipped : clipped_from w (upward w id) ≡ false
    free_is_unclipped =
        none_taken (is_clipped w) (λ a. is_none (first_answer w a)) (upward w id)
        (unclipped (ancestors w id) id refl
        (or_later (says (λ d. d.clips_children) w id) (list_any (says (λ d. d.clips_children) w) (ancestors w id))
        (none_by_less (says (λ d. d.hidden || d.clips_children) w) (says (λ d. d.clips_children) w) (λ x e. (data_free x (data_of w x) refl e).1) (upward w id) free)))

    settled_as : (r : FilterResult) → first_answer w id ≡ Some r → r ≡ common_filter w id
    settled_as r e = sym (ap (λ o. unwrap_or o (cond (is_cut_off (answer_at w (ancestors w id)) || is_clipped w id) ExcludeSubtree Include)) e)

    pub free_passed : is_passed w id ≡ true → ExcludeNode ≡ common_filter w id
    free_passed passed = settled_as ExcludeNode (passed_by_tests (is_focused w id) (is_hidden w id) (is_transparent w id) free_is_seen passed)

    pub free_kept : is_passed w id ≡ false → Include ≡ common_filter w id
    free_kept kept = by_focus (is_focused w id) refl
      where
        by_focus : (b : Bool) → is_focused w id ≡ b → Include ≡ common_filter w id
        by_focus true e = settled_as Include (focused_settled w id e)
        by_focus false e = answer_on_the_way w formed id false (sym (open_by_tests (is_focused w id) (is_hidden w id) (is_transparent w id) free_is_seen kept e)) (sym free_is_unclipped)

-- ---- what the code's tests say of a view

module _ (w : World) (focused : Option FullNodeId) (n : NodeRef) (same : world_at n ≡ w) (focus : IsFocusedOne w focused) where
  pub passed_as : (r : Bool) → (IsFocusedOne (world_at n) focused → r ≡ is_passed (world_at n) (id_at n)) → r ≡ is_passed w (id_at n)
  passed_as r says = says (subst (λ v. IsFocusedOne v focused) (sym same) focus) ∙ ap (λ v. is_passed v (id_at n)) same

-- ---- a step of the way up, by what the code's tests say of the parent

module _ (w : World) (formed : IsFormed w) (focused : Option FullNodeId) (focus : IsFocusedOne w focused) (n q : NodeRef) (same : world_at n ≡ w) (there : world_at q ≡ world_at n) (parent : Some (id_at q) ≡ parent_of (world_at n) (id_at n))
    (r : Bool) (tested : IsFocusedOne (world_at q) focused → r ≡ is_passed (world_at q) (id_at q)) where
  passed_is : (b : Bool) → r ≡ b → is_passed w (id_at q) ≡ b
  passed_is b e = sym (passed_as w focused q (there ∙ same) focus r tested) ∙ e

  pub shown_found : is_hidden w (id_at n) ≡ false → r ≡ false → filtered_parent (base_filter w) w (id_at n) ≡ Some (id_at q)
  shown_found seen e = base_finds w formed (world_at n) same (id_at n) (id_at q) parent seen (passed_is false e)

  pub shown_above : is_hidden w (id_at n) ≡ false → r ≡ true → filtered_parent (base_filter w) w (id_at n) ≡ filtered_parent (base_filter w) w (id_at q)
  shown_above seen e = base_goes_on w formed (world_at n) same (id_at n) (id_at q) parent seen (passed_is true e)

  module _ (unsettled : first_answer w (id_at n) ≡ None) where
    pub ends_passed : r ≡ true → (o : Option FullNodeId) → o ≡ filtered_parent (base_filter (world_at q)) (world_at q) (id_at q) → option_map_or (λ p. is_clipped_by w p (id_at n)) o false ≡ clipped_from w (upward w (id_at n))
    ends_passed e o found = way_passed w formed (world_at n) same (id_at n) (id_at q) parent unsettled (passed_is true e) o (found ∙ ap (λ v. filtered_parent (base_filter v) v (id_at q)) (there ∙ same))

    module _ (kept : r ≡ false) where
      pub opens : is_focused w (id_at q) ≡ false → first_answer w (id_at q) ≡ None
      opens f = parent_unsettled w formed (world_at n) same (id_at n) (id_at q) parent unsettled (passed_is false kept) f

      module _ (s : Bool) (clips : s ≡ is_clipped_by (world_at n) (id_at q) (id_at n)) where
        clipped_is : (b : Bool) → s ≡ b → is_clipped_by w (id_at q) (id_at n) ≡ b
        clipped_is b e = sym (clips ∙ ap (λ v. is_clipped_by v (id_at q) (id_at n)) same) ∙ e

        pub ends_clipped : s ≡ true → true ≡ clipped_from w (upward w (id_at n))
        ends_clipped e = way_clipped w formed (world_at n) same (id_at n) (id_at q) parent unsettled (passed_is false kept) (clipped_is true e)

        pub ends_focused : s ≡ false → is_focused w (id_at q) ≡ true → false ≡ clipped_from w (upward w (id_at n))
        ends_focused e f = way_focused w formed (world_at n) same (id_at n) (id_at q) parent unsettled (passed_is false kept) (clipped_is false e) f

        pub goes_on : s ≡ false → clipped_from w (upward w (id_at n)) ≡ clipped_from w (upward w (id_at q))
        goes_on e = way_on w formed (world_at n) same (id_at n) (id_at q) parent unsettled (passed_is false kept) (clipped_is false e)
