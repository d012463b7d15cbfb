-- What a picture draws of a node.
use Rattle.std.specs.Prelude.{ℕ, ◌+◌, ◌*◌, ◌/◌, ◌-◌, ◌^◌, ◌==◌, length, max, min, nat_lt, List, [], ◌++◌, codes, Bool, false, ◌&&◌, Option, Some, None, is_none, is_some, if◌then◌else◌}
use Rattle.std.specs.Fmt.{decimal}
use Rattle.std.specs.Option.{option_map_or}
use Rattle.html.specs.Escaped.{escaped}
use Rattle.schema.specs.Roles.{same_role}
use Rattle.schema.specs.declared.Role.TheVariants.{TextRun}
use Rattle.model.specs.declared.FullNodeId.{FullNodeId}
use Rattle.model.specs.Covers.{is_included}
use Rattle.model.specs.Lists.{first_child}
use Rattle.model.specs.Upward.{says}
use Rattle.model.specs.World.{World, children}
use Rattle.views.specs.Nodes.{world_at, id_at}
use Rattle.page_states.specs.declared.boxes.Frame.{Frame}
use Rattle.page_states.specs.declared.marks.Mark.{Mark}
use Rattle.page_states.specs.declared.marks.Mark.TheVariants.{Added, Updated}
use Rattle.page_states.specs.declared.places.Place.{Place}
use Rattle.page_states.specs.Boxes.{frame_of, frame_height, frame_width}
use Rattle.page_states.specs.Pictures.{rect_text, sides_text}
use Rattle.page_states.specs.Places.{box_drawn}
use Rattle.page_states.specs.Rows.{mark_class}
use Rattle.page_states.specs.Said.{caption_shown, label_shown}

-- ---- the classes of a box

abbrev pub included_class : Option Mark → List ℕ
included_class None = codes "n"
included_class (Some mark) = mark_class mark

abbrev pub transparent_class : Option Mark → List ℕ
transparent_class None = codes "t"
transparent_class (Some Added) = codes "t a"
transparent_class (Some Updated) = codes "t u"

-- a node that the common filter includes is drawn otherwise than one that it excludes alone
abbrev pub box_class : Place → List ℕ
box_class place = if is_included place.answer then included_class place.mark else transparent_class place.mark

-- ---- the text in a box

abbrev pub is_run_with_box : World → FullNodeId → Bool
is_run_with_box w id = says (λ d. same_role d.role TextRun && is_some d.bounds) w id

abbrev pub begins_with_run : World → FullNodeId → Bool
begins_with_run w id = option_map_or (is_run_with_box w) (first_child w id) false

-- the label, or else the value, unless the first child is a run that has a box, where the value is shown
abbrev pub text_in_box : Place → Option (List ℕ)
text_in_box place =
    if is_none (label_shown place.hidden.label (world_at place.node) (id_at place.node))
    && begins_with_run (world_at place.node) (id_at place.node)
    then None else caption_shown place.hidden (world_at place.node) (id_at place.node)

-- a part of the picture that is clipped by a box
abbrev pub clip_begun : Frame → List ℕ
clip_begun rect = codes "<svg " ++ sides_text rect ++ codes "\">"

-- a text in small letters at the top of its box, at most half as high and a sixtieth of the picture
abbrev pub heading_size : Frame → Frame → ℕ
heading_size frame rect = max (min (frame_height rect / 2) (frame_width frame / 60)) 1

abbrev pub heading_tag : ℕ → List ℕ
heading_tag size = codes "<text class=\"l\" x=\"1%\" y=\"" ++ decimal size ++ codes "\" font-size=\"" ++ decimal size ++ codes "\">"

abbrev pub heading_begun : Frame → Frame → List ℕ
heading_begun frame rect = clip_begun rect ++ heading_tag (heading_size frame rect)

-- the size at which a text of so many bytes just fits into its box
abbrev pub fitting_size : Frame → ℕ → ℕ
fitting_size rect length = if length == 0 then 2 ^ 64 - 1 else min (frame_width rect * 5) (2 ^ 64 - 1) / length / 3

-- the size of a text alone in its box: at least a sixtieth of the picture, and at most half the height and a 26th of the picture
abbrev pub caption_size : Frame → Frame → ℕ → ℕ
caption_size frame rect length =
    max (min (max (fitting_size rect length) (frame_width frame / 60)) (min (frame_height rect / 2) (frame_width frame / 26))) 1

-- in the middle, or at the left if it doesn't fit
abbrev pub caption_place : ℕ → ℕ → List ℕ
caption_place fitting size = if nat_lt fitting size then codes "class=\"l\" x=\"1%\"" else codes "x=\"50%\""

abbrev pub size_text : ℕ → List ℕ
size_text size = codes " y=\"50%\" font-size=\"" ++ decimal size ++ codes "\">"

abbrev pub caption_tag : List ℕ → ℕ → List ℕ
caption_tag place size = codes "<text " ++ place ++ size_text size

abbrev pub caption_begun : Frame → Frame → ℕ → List ℕ
caption_begun frame rect length =
    clip_begun rect
    ++ caption_tag (caption_place (fitting_size rect length) (caption_size frame rect length)) (caption_size frame rect length)

-- the text of a box, of a node with children at the top
abbrev pub text_begun : Frame → Frame → Bool → ℕ → List ℕ
text_begun frame rect is_leaf length = if is_leaf then caption_begun frame rect length else heading_begun frame rect

abbrev pub caption_in : Frame → Frame → Bool → Option (List ℕ) → List ℕ
caption_in frame rect is_leaf None = []
caption_in frame rect is_leaf (Some text) = text_begun frame rect is_leaf (length text) ++ escaped text ++ codes "</text></svg>"

-- ---- all of it

abbrev pub is_leaf : Place → Bool
is_leaf place = length (children (world_at place.node) (id_at place.node)) == 0

-- a box, and the text in it
abbrev pub drawn_at : Frame → Frame → Place → List ℕ
drawn_at frame rect place = rect_text (box_class place) rect ++ caption_in frame rect (is_leaf place) (text_in_box place)

-- what a picture with this frame draws of a node: at the bounds of its box, if that is drawn
abbrev pub drawn_text : Option Frame → Place → List ℕ
drawn_text None place = []
drawn_text (Some frame) place = option_map_or (λ rect. drawn_at frame (frame_of rect) place) (box_drawn place) []
