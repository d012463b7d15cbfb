-- Properties of a node that are computed from its parent's.
use Rattle.std.specs.Prelude.{◌≡◌, ◌<◌, ◌-◌, ◌^◌, ◌+ℤ◌, ℕ, ℤ, min, int_lt, int_le, List, length, get_or, Bool, true, false, not, ◌&&◌, ◌||◌, Option, Some, None, IfSome, option_map, option_and_then, find, if◌then◌else◌}
use Rattle.std.specs.List.{list_any}
use Rattle.std.specs.Option.{option_map_or}
use Rattle.schema.specs.declared.geometry.Translation.{Translation}
use Rattle.schema.specs.declared.geometry.WideTranslation.{WideTranslation}
use Rattle.schema.specs.declared.geometry.WideRect.{WideRect}
use Rattle.model.specs.declared.FullNodeId.{FullNodeId}
use Rattle.model.specs.World.{World}
use Rattle.model.specs.Forest.{place_of}
use Rattle.model.specs.declared.filters.FilterResult.{FilterResult}
use Rattle.model.specs.declared.filters.FilterResult.TheVariants.{Include, ExcludeNode}
use Rattle.model.specs.Lists.{ancestors}
use Rattle.model.specs.Upward.{says, says_upward, upward}
use Rattle.model.specs.RoleClasses.{is_password_input}
use Rattle.model.specs.Geometry.{transform, bounding_box, meets}
use Rattle.model.specs.Covers.{is_cut_off, is_included, filtered_parent}
use Rattle.model.specs.Filters.{is_hidden, base_filter, common_filter}
use Rattle.hidden_texts.specs.Hidden.{is_in_password}
use Rattle.page_states.specs.declared.carried.Known.{Known}
use Rattle.page_states.specs.declared.carried.Step.{Step}
use Rattle.page_states.specs.Sources.{IsCarried}

-- how many nodes are above a node, as far as a number of 64 bits goes
abbrev pub depth_at : World → FullNodeId → ℕ
depth_at w id = min (length (ancestors w id)) (2 ^ 64 - 1)

-- a node's own translation, and the sum of those above it
abbrev pub sum_of : Translation → WideTranslation → WideTranslation
sum_of own above = record { x = own.x +ℤ above.x; y = own.y +ℤ above.y }

-- the box by which a node clips the nodes below it
abbrev pub clip_frame : World → FullNodeId → Option WideRect
clip_frame w id = if says (λ d. d.clips_children) w id then bounding_box w id else None

-- what clips the nodes right below a node, or those that it passes on
abbrev pub frame_below : World → FullNodeId → Option WideRect
frame_below w id = option_and_then (clip_frame w) (find (λ a. is_included (base_filter w a)) (upward w id))

-- a node with this box isn't clipped by this frame, as far as that is known
abbrev pub is_clear : Option (Option WideRect) → Option WideRect → Bool
is_clear None rect = false
is_clear (Some None) rect = true
is_clear (Some (Some frame)) None = true
is_clear (Some (Some frame)) (Some rect) = meets rect frame

-- the node or an ancestor is a password input
abbrev pub is_secret : World → FullNodeId → Bool
is_secret w id = says_upward (λ d. is_password_input d.role) w id

-- the common filter excludes the node, or an ancestor, with its subtree
abbrev pub is_below_left_out : World → FullNodeId → Bool
is_below_left_out w id = list_any (λ a. is_cut_off (common_filter w a)) (ancestors w id)

abbrev pub is_left_out : World → FullNodeId → Bool
is_left_out w id = list_any (λ a. is_cut_off (common_filter w a)) (upward w id)

-- what clips a node: the box of the nearest node above it that the base filter includes, if that clips its children
abbrev pub clip_of : World → FullNodeId → Option WideRect
clip_of w id = option_and_then (clip_frame w) (filtered_parent (base_filter w) w id)

-- on one axis the start of a box, which may have no length, or a part of it is in a frame
abbrev pub is_along : ℤ → ℤ → ℤ → ℤ → Bool
is_along start end from to = (int_lt from to && int_lt start to) && (int_le from start || int_lt from end)

-- so on both
abbrev pub is_in_frame : WideRect → WideRect → Bool
is_in_frame frame r = is_along r.x0 r.x1 frame.x0 frame.x1 && is_along r.y0 r.y1 frame.y0 frame.y1

-- a box that is there isn't in a frame that is there
abbrev pub is_beyond : Option WideRect → Option WideRect → Bool
is_beyond None rect = false
is_beyond (Some frame) rect = option_map_or (λ r. not (is_in_frame frame r)) rect false

abbrev pub is_excluded_alone : FilterResult → Bool
is_excluded_alone ExcludeNode = true
is_excluded_alone answer = false

-- a graft, a container or a run lies wholly outside of what clips it
abbrev pub is_out_of_clip : World → FullNodeId → Bool
is_out_of_clip w id = is_excluded_alone (common_filter w id) && is_beyond (clip_of w id) (bounding_box w id)

-- a page doesn't draw the node: it is left out, or lies outside of what clips it
abbrev pub is_not_drawn : World → FullNodeId → Bool
is_not_drawn w id = is_left_out w id || is_out_of_clip w id

-- includes the nodes that the common filter excludes with their subtrees
abbrev pub left_out_filter : World → FullNodeId → FilterResult
left_out_filter w id = if is_cut_off (common_filter w id) then Include else ExcludeNode

-- the properties are those of this node
pub record IsKnown (w : World) (id : FullNodeId) (known : Known) : Type 0 where
  pub depth : known.depth ≡ depth_at w id
  pub shift : known.shift ≡ transform w id
  pub rect : known.rect ≡ bounding_box w id
  pub hidden : known.is_hidden ≡ is_hidden w id
  pub in_secret : known.is_in_password ≡ is_in_password w id
  pub secret : known.is_secret ≡ is_secret w id
  pub answer : known.answer ≡ common_filter w id
  pub left_out : known.is_left_out ≡ is_left_out w id
  pub out_of_clip : known.is_out_of_clip ≡ is_out_of_clip w id
  pub frame : IfSome known.frame (λ frame. frame ≡ frame_below w id)
  pub source : IfSome known.source (IsCarried w id)

abbrev pub IsStep : World → Step → Type 0
IsStep w step = IsKnown w step.id step.known

-- the step is to the node's parent, if there is one
abbrev pub IsStepAbove : World → FullNodeId → Option Step → Type 0
IsStepAbove w id above = IfSome above (λ step. (Some step.id ≡ option_map (λ p. p.0) (place_of w id)) × IsStep w step)

-- the path has a step to this node at this index
abbrev pub IsAt : List Step → ℕ → FullNodeId → Type 0
IsAt path last id = (last < length path) × ((d : Step) → (get_or path last d).id ≡ id)
