-- What is seen of cells whose nodes' nodes are in one list or in boxes.
use Rattle.std.specs.Prelude.{◌≡◌, ◌<◌, ◌^◌, ℕ, List, [], ◌∷◌, Option, Some, None, Bool, true, false, map, drop, length, slice_get, is_some, option_and_then}
use Rattle.std.specs.Option.{option_map}
use Rattle.std.specs.Vec.{vec_capacity}
use Rattle.schema.specs.NodeData.{NodeData}
use Rattle.model.specs.declared.FullNodeId.{FullNodeId}
use Rattle.model.specs.World.{Place}
use Rattle.tree_store.specs.declared.cell_list.Slot.{Slot}
use Rattle.tree_store.specs.declared.cell_list.Slot.TheVariants.{Free, Listed, Boxed}
use Rattle.tree_store.specs.declared.cell_list.Cell.{Cell}
use Rattle.tree_store.specs.declared.cell_list.CellList.TheInside.{Inside}
use Rattle.tree_store.specs.declared.records.Kept.{Kept}
use Rattle.tree_changes.specs.declared.decision.NodeChange.{NodeChange}
use Rattle.tree_changes.specs.declared.decision.NodeChange.TheVariants.{Put, Gone}
use Rattle.tree_store.specs.Cells.{Record, CellView, SlotsView}

-- the cells, the data of the nodes in the list, and for how many cells there is room
pub record CellsView : Type 0 where
  pub cells : List CellView
  pub nodes : List NodeData
  pub capacity : ℕ

abbrev pub placed_record : Option Place → NodeData → Record
placed_record place d = record { place = place; node = d }

-- the record of a place and data where they are kept
abbrev pub record_kept : Kept → Record
record_kept k = record { place = k.place.now; node = k.node.now }

-- a cell's slot, where this is the data under the cell's number in the list
abbrev pub slot_seen : Option NodeData → Option Place → Slot → Option (Option Record)
slot_seen d place Free = None
slot_seen d place (Listed false) = Some None
slot_seen d place (Listed true) = Some (option_map (placed_record place) d)
slot_seen d place (Boxed b) = Some (option_map (placed_record place) b.value)

-- and the data in the slot
abbrev pub node_seen : Option NodeData → Slot → Option NodeData
node_seen d Free = None
node_seen d (Listed false) = None
node_seen d (Listed true) = d
node_seen d (Boxed b) = b.value

-- whether there are data in a slot
abbrev pub is_full : Slot → Bool
is_full Free = false
is_full (Listed b) = b
is_full (Boxed b) = is_some b.value

abbrev pub seen : Option NodeData → Cell → CellView
seen d c = record { id = c.id; slot = slot_seen d c.place c.slot }

-- the cells, where these are the data in the list
abbrev pub all_seen : List NodeData → List Cell → List CellView
all_seen ds [] = []
all_seen ds (c ∷ cs) = seen (slice_get ds 0) c ∷ all_seen (drop 1 ds) cs

abbrev pub cells_of : Inside → CellsView
cells_of a =
    let nodes : List NodeData = map (λ e. e.1) a.listed.items in
    record { cells = all_seen nodes a.cells.items; nodes = nodes; capacity = vec_capacity a.cells }

-- a slot of the list is of a number in it
abbrev pub IsListed : Inside → Type 0
IsListed a = (n : ℕ) (c : Cell) (b : Bool) → slice_get a.cells.items n ≡ Some c → c.slot ≡ Listed b → n < length a.listed.items

abbrev pub AreFree : List Cell → Type 0
AreFree cells = (n : ℕ) (c : Cell) → slice_get cells n ≡ Some c → c.slot ≡ Free

-- a slot that a cell with this number may have, where the list is so long, and in which there is no node yet
abbrev pub IsEmptySlot : ℕ → ℕ → Slot → Type 0
IsEmptySlot count n Free = ⊥
IsEmptySlot count n (Listed b) = (b ≡ false) × (n < count)
IsEmptySlot count n (Boxed b) = b.value ≡ None

-- the slot of the cell with a number
abbrev pub slot_of : List CellView → ℕ → Option (Option Record)
slot_of cells n = option_and_then (λ c. c.slot) (slice_get cells n)

-- the cell of an id with this slot
abbrev pub cell_with : FullNodeId → Option (Option Record) → CellView
cell_with id slot = record { id = id; slot = slot }

-- the slots of an index over cells
abbrev pub slots_over : List (FullNodeId × ℕ) → CellsView → SlotsView
slots_over numbers cells = record { numbers = numbers; cells = cells.cells }

-- the record of a new node after a change, where these are the data of the update's nodes
abbrev pub record_from : List NodeData → NodeChange → Option Record
record_from ds (Put place (Some k)) = option_map (placed_record place) (slice_get ds k)
record_from ds (Put place None) = None
record_from ds Gone = None

-- the cells are as many as the nodes in the list, and fewer than numbers of 32 bits
pub record HasCellsForAll (cells : CellsView) : Type 0 where
  pub count : length cells.cells ≡ length cells.nodes
  pub bound : length cells.cells < 2 ^ 32
