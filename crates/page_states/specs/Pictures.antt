-- The picture of a state.
use Rattle.std.specs.Prelude.{◌≡◌, ℕ, ◌+◌, ◌-◌, ◌/◌, ◌==◌, length, nat_lt, List, [], ◌++◌, codes, Bool, ◌&&◌, Option, Some, None, if◌then◌else◌}
use Rattle.std.specs.Fmt.{decimal, signed_decimal}
use Rattle.std.specs.Io.KnownBytes.{Appends}
use Rattle.std.specs.List.{FoldsTo}
use Rattle.schema.specs.declared.geometry.WideRect.{WideRect}
use Rattle.model.specs.declared.FullNodeId.{FullNodeId}
use Rattle.views.specs.Nodes.{id_at}
use Rattle.page_states.specs.declared.again.Way.{Way}
use Rattle.page_states.specs.declared.again.Way.TheVariants.{Whole, Again, Folded}
use Rattle.page_states.specs.declared.boxes.Frame.{Frame}
use Rattle.page_states.specs.declared.rows.Row.{Row}
use Rattle.page_states.specs.Nesting.{levels_after, most_lists, times, within}
use Rattle.page_states.specs.Boxes.{frame_of, frame_height, frame_width, longer_side, widened}
use Rattle.page_states.specs.Written.{anchor_text}

abbrev Bytes : Type 0
Bytes = Option (List ℕ)

-- ---- a box

-- a rectangle's left, top, width and height as attributes
abbrev pub sides_text : Frame → List ℕ
sides_text r =
    codes "x=\"" ++ signed_decimal r.x0 ++ codes "\" y=\"" ++ signed_decimal r.y0 ++ codes "\" width=\"" ++ decimal (frame_width r)
    ++ codes "\" height=\"" ++ decimal (frame_height r)

abbrev pub rect_text : List ℕ → Frame → List ℕ
rect_text class r = codes "<rect class=\"" ++ class ++ codes "\" " ++ sides_text r ++ codes "\"/>"

-- the state whose row a box leads to: the earlier one where its row is below one that leads there
abbrev pub row_state : ℕ → Way → ℕ
row_state number Whole = number
row_state number (Again state) = number
row_state number (Folded state) = state

abbrev pub box_link : ℕ → FullNodeId → List ℕ
box_link state id = codes "<a tabindex=\"-1\" href=\"#" ++ anchor_text state id ++ codes "\">"

-- what is drawn of a node, with a link to its row
abbrev pub linked_box : ℕ → Row → List ℕ
linked_box number row =
    box_link (row_state number row.ways.row) (id_at row.shown.place.node) ++ row.shown.look.drawn.items ++ codes "</a>"

-- that, if something is
abbrev pub box_text : ℕ → Row → List ℕ
box_text number row = if length row.shown.look.drawn.items == 0 then [] else linked_box number row

-- ---- its group

-- neither a box of it is drawn, nor has it children
abbrev pub is_empty_box : Row → Bool
is_empty_box row = length row.shown.look.drawn.items == 0 && length row.shown.look.children.items == 0

-- whether it is in a group of its own: as many groups hold a box as lists hold its row
abbrev pub is_grouped : Row → Bool
is_grouped row = nat_lt (within row) most_lists

abbrev pub group_begun : ℕ → FullNodeId → List ℕ
group_begun number id = codes "<g id=\"b" ++ anchor_text number id ++ codes "\">"

abbrev pub group_opened : ℕ → Row → List ℕ
group_opened number row = if is_grouped row then group_begun number (id_at row.shown.place.node) else []

abbrev pub group_closed : Row → List ℕ
group_closed row = if is_grouped row && length row.shown.look.children.items == 0 then codes "</g>\n" else codes "\n"

-- a box in its group, which goes on if the node has children
abbrev pub group_text : ℕ → Row → List ℕ
group_text number row = group_opened number row ++ box_text number row ++ group_closed row

-- the group that an earlier state has drawn
abbrev pub use_text : ℕ → FullNodeId → List ℕ
use_text state id = codes "<use href=\"#b" ++ anchor_text state id ++ codes "\"/>\n"

abbrev pub ends_groups : ℕ → List ℕ
ends_groups count = times count (codes "</g>\n")

-- ---- all boxes

-- after a box that is within so many groups: those that don't hold this one are ended, and its group is there. Below a node whose group is
-- drawn again there is none.
abbrev pub part_text : ℕ → ℕ → Row → Way → List ℕ
part_text number groups row Whole = ends_groups (groups - within row) ++ group_text number row
part_text number groups row (Again state) = ends_groups (groups - within row) ++ use_text state (id_at row.shown.place.node)
part_text number groups row (Folded state) = []

abbrev pub WritesPart : ℕ → ℕ × Bytes → Row → ℕ × Bytes → Type 0
WritesPart number a row b =
    (b.0 ≡ (if is_empty_box row then a.0 else levels_after a.0 row row.ways.drawn))
    × Appends a.1 b.1 (if is_empty_box row then [] else part_text number a.0 row row.ways.drawn)

-- the ring around the focus
abbrev pub ring_around : WideRect → Frame → Frame
ring_around rect frame = widened (longer_side frame / 150) (frame_of rect)

abbrev pub ring_text : Frame → Option WideRect → List ℕ
ring_text frame None = []
ring_text frame (Some rect) = rect_text (codes "ring") (ring_around rect frame)

-- a frame's left, top, width and height
abbrev pub view_box : Frame → List ℕ
view_box frame =
    signed_decimal frame.x0 ++ codes " " ++ signed_decimal frame.y0 ++ codes " " ++ decimal (frame_width frame) ++ codes " "
    ++ decimal (frame_height frame)

abbrev pub view_begun : Frame → List ℕ
view_begun frame = codes "<svg aria-hidden=\"true\" viewBox=\"" ++ view_box frame ++ codes "\">\n"

abbrev pub picture_begun : ℕ → Frame → List ℕ
picture_begun number frame =
    codes "<figure><figcaption>Boxes of state " ++ decimal number ++ codes "</figcaption>\n" ++ view_begun frame

-- a picture of these rows that shows this frame, with a ring around this box
pub record Draws (number : ℕ) (frame : Frame) (rows : List Row) (ring : Option WideRect) (before after : Bytes) : Type 0 where
  pub begun : Bytes
  pub begins : Appends before begun (picture_begun number frame)
  pub groups : ℕ
  pub drawn : Bytes
  pub parts : FoldsTo (WritesPart number) (0, begun) rows (groups, drawn)
  pub ends : Appends drawn after (ends_groups groups ++ ring_text frame ring ++ codes "</svg></figure>\n")

-- or, without a frame, that no box is shown
abbrev pub WritesPicture : ℕ → Option Frame → List Row → Option WideRect → Bytes → Bytes → Type 0
WritesPicture number None rows ring before after = Appends before after (codes "<p class=\"note\">No box is shown.</p>\n")
WritesPicture number (Some frame) rows ring before after = Draws number frame rows ring before after
