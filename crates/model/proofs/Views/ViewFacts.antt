-- Filters and views, node by node.
use Rattle.std.proofs.Common.{◌≡◌, Bool, true, false, cond, ◌||◌, List, [], ◌∷◌, refl, sym, ◌∙◌, ap, map}
use Rattle.std.specs.Prelude.{pos, ◌+ℤ◌, Option, Some, None, is_none, slice_get, option_and_then, take_while, unwrap_or, filter_map}
use Rattle.std.specs.Option.{option_or, option_map_or}
use Rattle.std.specs.List.{list_any, cons_option}
use Rattle.std.proofs.lemmas.List.Sums.{take_while-cons}
use Rattle.schema.specs.NodeData.{NodeData}
use Rattle.model.specs.declared.FullNodeId.{FullNodeId}
use Rattle.model.specs.declared.filters.FilterResult.{FilterResult}
use Rattle.model.specs.declared.filters.FilterResult.TheVariants.{Include, ExcludeNode, ExcludeSubtree}
use Rattle.model.specs.World.{World, Place}
use Rattle.model.specs.Forest.{chain, place_of, above, IsFormed}
use Rattle.model.specs.Lists.{ancestors}
use Rattle.model.specs.FocusFound.{is_focused}
use Rattle.model.specs.Upward.{field_at, says, upward, nearest_given, inherited_field, says_upward}
use Rattle.model.specs.Covers.{is_cut_off}
use Rattle.model.specs.Geometry.{direct_transform, sum_of_moves, transform}
use Rattle.model.specs.Filters.{is_hidden, is_transparent, first_answer, is_clipped, answer_at, common_filter}
use Rattle.model.specs.ViewLaws.{six_steps}

-- ---- what comes from above

module _ (w : World) (formed : IsFormed w) where
  -- the ancestors are the parent and those above it
  lead : Option Place → List FullNodeId
  lead o = map (λ (p : Place). p.0) (chain (above w) o)

  from_place : (id : FullNodeId) → ancestors w id ≡ map (λ (p : Place). p.0) (chain (above w) (place_of w id))
  from_place id = ap (map (λ (p : Place). p.0)) (formed.rooted id)

  pub inherited_is : {A : Type 0} (field : NodeData → Option A) (id : FullNodeId) → inherited_field field w id ≡ option_or (field_at field w id) (option_and_then (λ p. inherited_field field w p.0) (place_of w id))
  inherited_is field id =
      ap (λ ids. nearest_given field w (id ∷ ids)) (from_place id) ∙ first (field_at field w id) (filter_map (field_at field w) (map (λ (p : Place). p.0) (chain (above w) (place_of w id)))) ∙ ap (option_or (field_at field w id)) (by_place (place_of w id))
    where
      first : {B : Type 0} (o : Option B) (xs : List B) → slice_get (cons_option o xs) 0 ≡ option_or o (slice_get xs 0)
      first None xs = refl
      first (Some x) xs = refl

      by_place : (o : Option Place) → nearest_given field w (map (λ (p : Place). p.0) (chain (above w) o)) ≡ option_and_then (λ p. inherited_field field w p.0) o
      by_place None = refl
      by_place (Some p) = refl

  pub said_upward_is : (test : NodeData → Bool) (id : FullNodeId) → says_upward test w id ≡ (says test w id || option_map_or (λ p. says_upward test w p.0) (place_of w id) false)
  said_upward_is test id = ap (λ ids. says test w id || list_any (says test w) ids) (from_place id) ∙ ap (λ b. says test w id || b) (by_place (place_of w id))
    where
      by_place : (o : Option Place) → list_any (says test w) (map (λ (p : Place). p.0) (chain (above w) o)) ≡ option_map_or (λ p. says_upward test w p.0) o false
      by_place None = refl
      by_place (Some p) = refl

  pub transform_is : (id : FullNodeId) → ((transform w id).x ≡ (direct_transform w id).x +ℤ option_map_or (λ p. (transform w p.0).x) (place_of w id) (pos 0)) × ((transform w id).y ≡ (direct_transform w id).y +ℤ option_map_or (λ p. (transform w p.0).y) (place_of w id) (pos 0))
  transform_is id = (
    ap (λ ids. (sum_of_moves w (id ∷ ids)).x) (from_place id) ∙ ap (λ n. (direct_transform w id).x +ℤ n) (by_x (place_of w id)),
    ap (λ ids. (sum_of_moves w (id ∷ ids)).y) (from_place id) ∙ ap (λ n. (direct_transform w id).y +ℤ n) (by_y (place_of w id)),
  )
    where
      by_x : (o : Option Place) → (sum_of_moves w (map (λ (p : Place). p.0) (chain (above w) o))).x ≡ option_map_or (λ p. (transform w p.0).x) o (pos 0)
      by_x None = refl
      by_x (Some p) = refl

      by_y : (o : Option Place) → (sum_of_moves w (map (λ (p : Place). p.0) (chain (above w) o))).y ≡ option_map_or (λ p. (transform w p.0).y) o (pos 0)
      by_y None = refl
      by_y (Some p) = refl

  -- ---- the common filter

  -- the answer, where the parent's stands at this place
  abbrev answer_below : (FullNodeId → FilterResult) → FullNodeId → Option Place → FilterResult
  answer_below g id o = unwrap_or (first_answer w id) (cond (option_map_or (λ p. is_cut_off (g p.0)) o false || is_clipped w id) ExcludeSubtree Include)

  cut_above : (o : Option Place) → is_cut_off (answer_at w (map (λ (p : Place). p.0) (chain (above w) o))) ≡ option_map_or (λ p. is_cut_off (common_filter w p.0)) o false
  cut_above None = refl
  cut_above (Some p) = refl

  pub steps : (id : FullNodeId) → common_filter w id ≡ six_steps w (common_filter w) id
  steps id =
      ap (λ ids. answer_at w (id ∷ ids)) (from_place id) ∙ ap (λ b. unwrap_or (first_answer w id) (cond (b || is_clipped w id) ExcludeSubtree Include)) (cut_above (place_of w id))

  -- above the parent is the rest of what is above the node
  rest_above : (id : FullNodeId) (q : Place) (up : List Place) (p : Place) → above w id ≡ q ∷ up → place_of w id ≡ Some p → above w p.0 ≡ up
  rest_above id q up p e at = let both : p ∷ above w p.0 ≡ q ∷ up = ap (chain (above w)) (sym at) ∙ sym (formed.rooted id) ∙ e in cc

  none_above : (id : FullNodeId) (p : Place) → above w id ≡ [] → place_of w id ≡ Some p → ⊥
  none_above id p e at = let both : p ∷ above w p.0 ≡ [] = ap (chain (above w)) (sym at) ∙ sym (formed.rooted id) ∙ e in cc

  module _ (g : FullNodeId → FilterResult) (goes : (id : FullNodeId) → g id ≡ six_steps w g id) where
    same_below : (id : FullNodeId) (o : Option Place) → ((p : Place) → o ≡ Some p → g p.0 ≡ common_filter w p.0) → answer_below g id o ≡ answer_below (common_filter w) id o
    same_below id None h = refl
    same_below id (Some p) h = ap (λ r. unwrap_or (first_answer w id) (cond (is_cut_off r || is_clipped w id) ExcludeSubtree Include)) (h p refl)

    only : (ps : List Place) (id : FullNodeId) → above w id ≡ ps → g id ≡ common_filter w id
    only [] id e = goes id ∙ same_below id (place_of w id) (λ p at. absurd (none_above id p e at)) ∙ sym (steps id)
    only (q ∷ up) id e = goes id ∙ same_below id (place_of w id) (λ p at. only up p.0 (rest_above id q up p e at)) ∙ sym (steps id)

    pub only_one : (id : FullNodeId) → g id ≡ common_filter w id
    only_one id = only (above w id) id refl

  -- ---- a node is cut off by what is clipped on the way up

  not_cut : (a b c : Bool) (r : FilterResult) → b ≡ false → cond a (Some Include) (cond b (Some ExcludeSubtree) (cond c (Some ExcludeNode) None)) ≡ Some r → is_cut_off r ≡ false
  not_cut true b c r e f = let same : Include ≡ r = cc in ap is_cut_off (sym same)
  not_cut false true c r e f = cc
  not_cut false false true r e f = let same : ExcludeNode ≡ r = cc in ap is_cut_off (sym same)
  not_cut false false false r e f = cc

  not_hidden : (a b c : Bool) → cond a (Some Include) (cond b (Some ExcludeSubtree) (cond c (Some ExcludeNode) None)) ≡ None → b ≡ false
  not_hidden true b c e = cc
  not_hidden false true c e = cc
  not_hidden false false c e = refl

  or_false : (a b : Bool) → (a || b) ≡ false → b ≡ false
  or_false true b e = cc
  or_false false b e = e

  or_swap : (a b : Bool) → (a || b) ≡ (b || a)
  or_swap true true = refl
  or_swap true false = refl
  or_swap false true = refl
  or_swap false false = refl

  cut_if : (b : Bool) → is_cut_off (cond b ExcludeSubtree Include) ≡ b
  cut_if true = refl
  cut_if false = refl

  abbrev unsettled : FullNodeId → Bool
  unsettled a = is_none (first_answer w a)

  abbrev clipped_from : List FullNodeId → Bool
  clipped_from ids = list_any (is_clipped w) (take_while unsettled ids)

  -- of a node that isn't hidden, where it holds of its parent
  on_the_way : (id : FullNodeId) → is_hidden w id ≡ false → is_cut_off (answer_at w (ancestors w id)) ≡ clipped_from (ancestors w id) → (o : Option FilterResult) → first_answer w id ≡ o → is_cut_off (common_filter w id) ≡ clipped_from (upward w id)
  on_the_way id seen below None e =
      ap (λ o. is_cut_off (unwrap_or o (cond (is_cut_off (answer_at w (ancestors w id)) || is_clipped w id) ExcludeSubtree Include))) e
      ∙ cut_if (is_cut_off (answer_at w (ancestors w id)) || is_clipped w id)
      ∙ ap (λ b. b || is_clipped w id) below
      ∙ or_swap (clipped_from (ancestors w id)) (is_clipped w id)
      ∙ sym (ap (list_any (is_clipped w)) (take_while-cons unsettled id (ancestors w id) ∙ ap (λ o. cond (is_none o) (id ∷ take_while unsettled (ancestors w id)) []) e))
  on_the_way id seen below (Some r) e =
      ap (λ o. is_cut_off (unwrap_or o (cond (is_cut_off (answer_at w (ancestors w id)) || is_clipped w id) ExcludeSubtree Include))) e
      ∙ not_cut (is_focused w id) (is_hidden w id) (is_transparent w id) r seen e
      ∙ sym (ap (list_any (is_clipped w)) (take_while-cons unsettled id (ancestors w id) ∙ ap (λ o. cond (is_none o) (id ∷ take_while unsettled (ancestors w id)) []) e))

  cut_by_above : (o : Option Place) → ((p : Place) → o ≡ Some p → is_cut_off (common_filter w p.0) ≡ clipped_from (upward w p.0)) → is_cut_off (answer_at w (map (λ (p : Place). p.0) (chain (above w) o))) ≡ clipped_from (map (λ (p : Place). p.0) (chain (above w) o))
  cut_by_above None h = refl
  cut_by_above (Some p) h = h p refl

  parent_seen : (id : FullNodeId) (p : Place) → place_of w id ≡ Some p → is_hidden w id ≡ false → is_hidden w p.0 ≡ false
  parent_seen id p at seen =
      or_false (says (λ d. d.hidden) w id) (is_hidden w p.0) (sym (said_upward_is (λ d. d.hidden) id ∙ ap (λ o. says (λ d. d.hidden) w id || option_map_or (λ (q : Place). is_hidden w q.0) o false) at) ∙ seen)

  of_ancestors : (id : FullNodeId) → ((p : Place) → place_of w id ≡ Some p → is_cut_off (common_filter w p.0) ≡ clipped_from (upward w p.0)) → is_cut_off (answer_at w (ancestors w id)) ≡ clipped_from (ancestors w id)
  of_ancestors id h =
      ap (λ ids. is_cut_off (answer_at w ids)) (from_place id) ∙ cut_by_above (place_of w id) h ∙ sym (ap clipped_from (from_place id))

  climbs : (ps : List Place) (id : FullNodeId) → above w id ≡ ps → is_hidden w id ≡ false → is_cut_off (common_filter w id) ≡ clipped_from (upward w id)
  climbs [] id e seen = on_the_way id seen (of_ancestors id (λ p at. absurd (none_above id p e at))) (first_answer w id) refl
  climbs (q ∷ up) id e seen = on_the_way id seen (of_ancestors id (λ p at. climbs up p.0 (rest_above id q up p e at) (parent_seen id p at seen))) (first_answer w id) refl

  pub clipped_on_the_way : (id : FullNodeId) → first_answer w id ≡ None → common_filter w id ≡ cond (clipped_from (upward w id)) ExcludeSubtree Include
  clipped_on_the_way id e =
      let seen : is_hidden w id ≡ false = not_hidden (is_focused w id) (is_hidden w id) (is_transparent w id) e in
      let answer : common_filter w id ≡ cond (is_cut_off (answer_at w (ancestors w id)) || is_clipped w id) ExcludeSubtree Include
      = ap (λ o. unwrap_or o (cond (is_cut_off (answer_at w (ancestors w id)) || is_clipped w id) ExcludeSubtree Include)) e in
      answer ∙ ap (λ b. cond b ExcludeSubtree Include) (sym (cut_if (is_cut_off (answer_at w (ancestors w id)) || is_clipped w id)) ∙ ap is_cut_off (sym answer) ∙ climbs (above w id) id refl seen)
