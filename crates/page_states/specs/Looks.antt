-- What a state shows of each of its nodes.
use Rattle.std.specs.Prelude.{◌≡◌, List, Option}
use Rattle.model.specs.declared.FullNodeId.{FullNodeId}
use Rattle.model.specs.World.{children}
use Rattle.views.specs.Nodes.{world_at, id_at}
use Rattle.page_states.specs.declared.boxes.Frame.{Frame}
use Rattle.page_states.specs.declared.looks.Look.{Look}
use Rattle.page_states.specs.declared.places.Place.{Place}
use Rattle.page_states.specs.declared.rows.Shown.{Shown}
use Rattle.page_states.specs.Drawn.{drawn_text}
use Rattle.page_states.specs.Rows.{row_text}

abbrev pub place_shown : Shown → Place
place_shown shown = shown.place

abbrev pub children_at : Place → List FullNodeId
children_at place = children (world_at place.node) (id_at place.node)

-- this is shown of the node: in the outline exactly the text of its row, and in a picture with this frame exactly its box
pub record IsLook (frame : Option Frame) (place : Place) (look : Look) : Type 0 where
  pub row : look.row.items ≡ row_text place
  pub drawn : look.drawn.items ≡ drawn_text frame place
  pub children : look.children.items ≡ children_at place

abbrev pub IsShownIn : Option Frame → Shown → Type 0
IsShownIn frame shown = IsLook frame shown.place shown.look
