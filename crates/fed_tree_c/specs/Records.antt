-- What C sees of ids, events, boxes and positions.
use Rattle.std.specs.Prelude.{ℕ, Bool, true, false, is_some, Option}
use Rattle.std.specs.Int.{saturate_signed, w64}
use Rattle.std.specs.Option.{option_map_or}
use Rattle.schema.specs.declared.geometry.WideRect.{WideRect}
use Rattle.model.specs.declared.FullNodeId.{FullNodeId}
use Rattle.model.specs.declared.queries.Side.{Side}
use Rattle.model.specs.declared.queries.Side.TheVariants.{Start, End}
use Rattle.fed_tree.specs.declared.events.Event.{Event}
use Rattle.fed_tree.specs.declared.events.EventKind.{EventKind}
use Rattle.fed_tree.specs.declared.events.EventKind.TheVariants as kind
use Rattle.fed_tree.specs.declared.text_places.TextPlace.{TextPlace}
use Rattle.fed_tree_c.specs.declared.records.AkBounds.{AkBounds}
use Rattle.fed_tree_c.specs.declared.records.AkId.{AkId}
use Rattle.fed_tree_c.specs.declared.records.AkPosition.{AkPosition}
use Rattle.fed_tree_c.specs.declared.records.AkEvent.{AkEvent}

abbrev pub id_of : FullNodeId → AkId
id_of id = record { node = id.node.0; tree = id.tree }

abbrev pub node_id : ℕ → ℕ → FullNodeId
node_id node tree = record { tree = tree; node = record { 0 = node } }

abbrev pub kind_number : EventKind → ℕ
kind_number kind.Added = 0
kind_number kind.Updated = 1
kind_number kind.Removed = 2
kind_number kind.FocusMoved = 3

-- where there is no node, its numbers are 0
abbrev pub node_or_zero : Option FullNodeId → ℕ
node_or_zero id = option_map_or (λ known. known.node.0) id 0

abbrev pub tree_or_zero : Option FullNodeId → ℕ
tree_or_zero id = option_map_or (λ known. known.tree) id 0

abbrev pub event_of : Event → AkEvent
event_of event = record {
  old_node = node_or_zero event.old;
  new_node = node_or_zero event.new;
  old_tree = tree_or_zero event.old;
  new_tree = tree_or_zero event.new;
  kind = kind_number event.kind;
  has_old = is_some event.old;
  has_new = is_some event.new;
}

-- a box; an edge beyond 64 bits is the nearest number within them
abbrev pub bounds_of : WideRect → AkBounds
bounds_of box = record {
  x0 = saturate_signed w64 box.x0;
  y0 = saturate_signed w64 box.y0;
  x1 = saturate_signed w64 box.x1;
  y1 = saturate_signed w64 box.y1;
}

abbrev pub is_end : Side → Bool
is_end Start = false
is_end End = true

abbrev pub position_of : TextPlace → AkPosition
position_of place = record {
  run = place.name.node.0;
  character = place.name.character_index;
  index = place.index;
  utf16_index = place.utf16_index;
  line = place.line;
  is_end = is_end place.side;
}
