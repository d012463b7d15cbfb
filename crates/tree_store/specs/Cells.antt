-- Cells by number: each keeps the slot of one id, or is free.
use Rattle.std.specs.Prelude.{◌≡◌, ℕ, List, [], Option, Some, None, IsSome, is_none, Bool, length, count_by, slice_get, option_and_then}
use Rattle.std.specs.Option.{option_map}
use Rattle.schema.specs.NodeData.{NodeData}
use Rattle.model.specs.World.{Place}
use Rattle.std.specs.Map.{lookup}
use Rattle.std.specs.BTreeMap.{is_at}
use Rattle.model.specs.declared.FullNodeId.{FullNodeId}
use Rattle.model.specs.FullIds.{full_cmp}

-- the record of a node: its place and its data
pub record Record : Type 0 where
  pub place : Option Place
  pub node : NodeData

-- what is seen of a cell: the id that it is of, and its slot: nothing if it is free, and else an empty slot or a record
pub record CellView : Type 0 where
  pub id : FullNodeId
  pub slot : Option (Option Record)

-- the numbers of the ids' cells, and the cells
pub record SlotsView : Type 0 where
  pub numbers : List (FullNodeId × ℕ)
  pub cells : List CellView

abbrev pub no_slots : SlotsView
no_slots = record { numbers = []; cells = [] }

abbrev pub kept_in : CellView → Option (Option Record)
kept_in c = c.slot

-- the number of an id's cell
abbrev pub number_of : SlotsView → FullNodeId → Option ℕ
number_of s id = lookup (is_at (full_cmp id)) s.numbers

-- the slot in the cell with a number, and the id of that cell
abbrev pub slot_in : SlotsView → ℕ → Option (Option Record)
slot_in s n = option_and_then kept_in (slice_get s.cells n)

abbrev pub id_in : SlotsView → ℕ → Option FullNodeId
id_in s n = option_map (λ c. c.id) (slice_get s.cells n)

abbrev pub record_in : Option (Option Record) → Option Record
record_in None = None
record_in (Some r) = r

-- the record that is seen of an id, where this is what is seen in the cells
abbrev pub seen : SlotsView → (ℕ → Option (Option Record)) → FullNodeId → Option Record
seen s see id = record_in (option_and_then see (number_of s id))

-- what is kept at an id: nothing, an empty slot, or a record
abbrev pub slot_at : SlotsView → FullNodeId → Option (Option Record)
slot_at s id = option_and_then (slot_in s) (number_of s id)

-- the record of an id
abbrev pub record_at : SlotsView → FullNodeId → Option Record
record_at s id = seen s (slot_in s) id

-- An id's cell has that id and a slot, and a cell with a slot is that of its id: so two ids never share a cell, and no slot is lost.
pub record HasOwnCells (s : SlotsView) : Type 0 where
  pub own : (id : FullNodeId) (n : ℕ) → number_of s id ≡ Some n
      → (c : CellView) × (slice_get s.cells n ≡ Some c) × (c.id ≡ id) × IsSome (kept_in c)
  pub back : (n : ℕ) (c : CellView) → slice_get s.cells n ≡ Some c → IsSome (kept_in c) → number_of s c.id ≡ Some n

abbrev pub is_free : CellView → Bool
is_free c = is_none (kept_in c)

-- The list has the number of each free cell, once, and no other number.
pub record IsFreeList (cells : List CellView) (free : List ℕ) : Type 0 where
  pub empty : (k n : ℕ) → slice_get free k ≡ Some n → (c : CellView) × (slice_get cells n ≡ Some c) × (kept_in c ≡ None)
  pub once : (j k n : ℕ) → slice_get free j ≡ Some n → slice_get free k ≡ Some n → j ≡ k
  pub all : length free ≡ count_by is_free cells
