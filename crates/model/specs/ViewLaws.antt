-- What is proved of filters and views.
use Rattle.std.specs.Prelude.{◌≡◌, [], ◌∷◌, flat_map, pos, ◌+ℤ◌, false, cond, ◌||◌, take_while, Bool, Option, Some, None, is_none, option_and_then, unwrap_or, IsTrue, ◌↔◌}
use Rattle.std.specs.Option.{option_or, option_map_or}
use Rattle.std.specs.List.{list_any}
use Rattle.schema.specs.NodeData.{NodeData}
use Rattle.model.specs.declared.FullNodeId.{FullNodeId}
use Rattle.model.specs.declared.filters.FilterResult.{FilterResult}
use Rattle.model.specs.declared.filters.FilterResult.TheVariants.{Include, ExcludeSubtree}
use Rattle.model.specs.World.{World, children}
use Rattle.model.specs.State.{IsState}
use Rattle.model.specs.Forest.{place_of, IsFormed}
use Rattle.model.specs.Lists.{preorder, IsWithin}
use Rattle.model.specs.Focus.{IsEffectiveFocus, IsFocusedNode}
use Rattle.model.specs.FocusFound.{effective_focus, is_focused}
use Rattle.model.specs.Upward.{field_at, says, upward, inherited_field, says_upward, is_within}
use Rattle.model.specs.Covers.{is_cut_off}
use Rattle.model.specs.Geometry.{direct_transform, transform, transform_within, uncut_preorder}
use Rattle.model.specs.Filters.{first_answer, is_clipped, common_filter}

-- `effective_focus` is the effective focus of a state
abbrev pub FocusIsFound : Type 0
FocusIsFound = (w : World) → IsState w → (id : FullNodeId) → (effective_focus w ≡ Some id) ↔ IsEffectiveFocus w id

-- and `is_focused` holds of exactly the focused node of a state
abbrev pub FocusedNodeIsFound : Type 0
FocusedNodeIsFound = (w : World) → IsState w → (id : FullNodeId) → IsTrue (is_focused w id) ↔ IsFocusedNode w id

-- the six steps in their order, given the answer g for the parent
abbrev pub six_steps : World → (FullNodeId → FilterResult) → FullNodeId → FilterResult
six_steps w g id =
    unwrap_or (first_answer w id)
    (cond (option_map_or (λ p. is_cut_off (g p.0)) (place_of w id) false || is_clipped w id) ExcludeSubtree Include)

abbrev pub CommonFilterIsSixSteps : Type 0
CommonFilterIsSixSteps = (w : World) → IsFormed w → (id : FullNodeId) → common_filter w id ≡ six_steps w (common_filter w) id

-- no other filter satisfies them
abbrev pub SixStepsAreOneFilter : Type 0
SixStepsAreOneFilter =
    (w : World) → IsFormed w → (g : FullNodeId → FilterResult) → ((id : FullNodeId) → g id ≡ six_steps w g id) → (id : FullNodeId)
    → g id ≡ common_filter w id

-- a node that doesn't decide its own answer is cut off exactly if it or an ancestor is clipped, up to the first that decides its own
abbrev pub CutOffIsClippedOnTheWay : Type 0
CutOffIsClippedOnTheWay =
    (w : World) → IsFormed w → (id : FullNodeId) → first_answer w id ≡ None
    → common_filter w id
    ≡ cond (list_any (is_clipped w) (take_while (λ a. is_none (first_answer w a)) (upward w id))) ExcludeSubtree Include

-- a node has its own value, or else its parent's
abbrev pub InheritedIsOfParent : Type 0 → Type 0
InheritedIsOfParent A =
    (field : NodeData → Option A) (w : World) → IsFormed w → (id : FullNodeId)
    → inherited_field field w id
    ≡ option_or (field_at field w id) (option_and_then (λ p. inherited_field field w p.0) (place_of w id))

abbrev pub SaidUpwardIsOfParent : Type 0
SaidUpwardIsOfParent =
    (test : NodeData → Bool) (w : World) → IsFormed w → (id : FullNodeId)
    → says_upward test w id ≡ (says test w id || option_map_or (λ p. says_upward test w p.0) (place_of w id) false)

-- a node is shifted by its own translation and by all that shifts its parent
abbrev pub TransformIsOfParent : Type 0
TransformIsOfParent =
    (w : World) → IsFormed w → (id : FullNodeId)
    → ((transform w id).x ≡ (direct_transform w id).x +ℤ option_map_or (λ p. (transform w p.0).x) (place_of w id) (pos 0))
    × ((transform w id).y ≡ (direct_transform w id).y +ℤ option_map_or (λ p. (transform w p.0).y) (place_of w id) (pos 0))

-- `is_within` is equivalent to `IsWithin`
abbrev pub IsWithinIsTested : Type 0
IsWithinIsTested = (w : World) (top id : FullNodeId) → IsTrue (is_within w top id) ↔ IsWithin w top id

-- a pre-order without what is cut off is the node, and then that of each child in turn
abbrev pub UncutIsOfChildren : Type 0
UncutIsOfChildren =
    (f : FullNodeId → FilterResult) (w : World) → IsFormed w → (id : FullNodeId)
    → uncut_preorder f w id ≡ cond (is_cut_off (f id)) [] (id ∷ flat_map (uncut_preorder f w) (children w id))

-- if nothing is cut off it is the plain pre-order
abbrev pub UncutIsPreorder : Type 0
UncutIsPreorder =
    (f : FullNodeId → FilterResult) (w : World) → ((id : FullNodeId) → is_cut_off (f id) ≡ false) → (id : FullNodeId)
    → uncut_preorder f w id ≡ preorder w id

-- a node's translation is the one within top plus that of top
abbrev pub TransformIsWithinAndAbove : Type 0
TransformIsWithinAndAbove =
    (w : World) → IsFormed w → (top id : FullNodeId) → IsWithin w top id
    → ((transform w id).x ≡ (transform_within w top id).x +ℤ (transform w top).x)
    × ((transform w id).y ≡ (transform_within w top id).y +ℤ (transform w top).y)
