-- What is written of a state.
use Rattle.std.specs.Prelude.{◌≡◌, ℕ, List, codes, map, All, Option, is_some, option_and_then}
use Rattle.std.specs.BTreeMap.{BTreeMap}
use Rattle.std.specs.Io.KnownBytes.{Appends}
use Rattle.model.specs.declared.FullNodeId.{FullNodeId}
use Rattle.model.specs.World.{World}
use Rattle.model.specs.Focus.{IsFocus}
use Rattle.model.specs.Geometry.{bounding_box}
use Rattle.page_states.specs.declared.again.Last.{Last}
use Rattle.page_states.specs.declared.boxes.Frame.{Frame}
use Rattle.page_states.specs.declared.marks.Mark.{Mark}
use Rattle.page_states.specs.declared.places.Place.{Place}
use Rattle.page_states.specs.declared.rows.Row.{Row}
use Rattle.page_states.specs.Again.{row_shown, AreLed, KeepsRows}
use Rattle.page_states.specs.Boxes.{picture_frame}
use Rattle.page_states.specs.Looks.{IsShownIn}
use Rattle.page_states.specs.Pictures.{WritesPicture}
use Rattle.page_states.specs.Places.{AreNodes, HasMark, IsPlace, node_at, shown_nodes}
use Rattle.page_states.specs.Rows.{WritesOutline}

abbrev Bytes : Type 0
Bytes = Option (List ℕ)

-- the outline of these rows, and their picture beside it, with a ring around the focus
pub record WritesRows (number : ℕ) (w : World) (frame : Option Frame) (rows : List Row) (before after : Bytes) : Type 0 where
  pub begun : Bytes
  pub begins : Appends before begun (codes "<div class=\"state\">\n")
  pub listed : Bytes
  pub outline : WritesOutline number rows begun listed
  pub focus : Option FullNodeId
  pub is_focus : IsFocus w focus
  pub drawn : Bytes
  pub picture : WritesPicture number frame rows (option_and_then (bounding_box w) focus) listed drawn
  pub ends : Appends drawn after (codes "</div>\n")

abbrev pub place_of_row : Row → Place
place_of_row row = row.shown.place

-- rows of all nodes of the world, each once and in order, with their marks and what is shown of each in a picture with its frame; a row
-- leads back exactly where the same was shown, with all below it
pub record AreRows (w : World) (marks : BTreeMap FullNodeId Mark) (kept : BTreeMap FullNodeId Last) (frame : Option Frame)
    (rows : List Row) : Type 0 where
  pub nodes : AreNodes w (shown_nodes w) (map (λ row. node_at (place_of_row row)) rows)
  pub places : All (λ row. IsPlace (place_of_row row)) rows
  pub marked : All (λ row. HasMark marks (place_of_row row)) rows
  pub framed : frame ≡ picture_frame (map place_of_row rows)
  pub looks : All (λ row. IsShownIn frame (row_shown row)) rows
  pub ways : AreLed kept (map row_shown rows) rows

-- a state is written as its rows, and these are kept
pub record WritesState (number : ℕ) (w : World) (marks : BTreeMap FullNodeId Mark) (before after : BTreeMap FullNodeId Last × Bytes)
    : Type 0 where
  pub frame : Option Frame
  pub rows : List Row
  pub are_rows : AreRows w marks before.0 frame rows
  pub writes : WritesRows number w frame rows before.1 after.1
  pub keeps : KeepsRows number (is_some frame) rows after.0
