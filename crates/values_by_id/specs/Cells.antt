-- Values in cells: for each tree, by its index, a row of cells, one for each node id from 0 on.
use Rattle.std.specs.Prelude.{◌≡◌, ℕ, suc, List, [], ◌∷◌, ◌++◌, Option, Some, None, slice_get, slice_set, slice_index_or}
use Rattle.std.specs.Map.{lookup}
use Rattle.std.specs.BTreeMap.{is_at}
use Rattle.model.specs.declared.FullNodeId.{FullNodeId}
use Rattle.model.specs.FullIds.{full_cmp}

abbrev pub Cells : Type 0 → Type 0
Cells X = List (Option X)

module _ {X : Type 0} where
  -- the value in a cell, where there is the cell
  abbrev pub value_in : Option (Option X) → Option X
  value_in None = None
  value_in (Some o) = o

  -- how many values a cell has
  abbrev pub size : Option X → ℕ
  size None = 0
  size (Some v) = 1

  -- the cell of an id, where it has one
  abbrev pub cell_of : List (Cells X) → FullNodeId → Option (Option X)
  cell_of rows id = slice_get (slice_index_or rows id.tree []) id.node.0

  -- the value in the cell of an id
  abbrev pub cell_at : List (Cells X) → FullNodeId → Option X
  cell_at rows id = value_in (cell_of rows id)

  -- the cells, with that of an id set
  abbrev pub with_cell : List (Cells X) → FullNodeId → Option X → List (Cells X)
  with_cell rows id o = slice_set rows id.tree (slice_set (slice_index_or rows id.tree []) id.node.0 o)

  -- the entries of a tree's cells, the first of which is that of this node id
  abbrev pub row_entries : ℕ → ℕ → Cells X → List (FullNodeId × X)
  row_entries tree node [] = []
  row_entries tree node (None ∷ cells) = row_entries tree (suc node) cells
  row_entries tree node (Some v ∷ cells) = (record { tree = tree; node = record { 0 = node } }, v) ∷ row_entries tree (suc node) cells

  -- the entries of rows of cells, the first of which is that of the tree with this index
  abbrev pub cell_entries : ℕ → List (Cells X) → List (FullNodeId × X)
  cell_entries tree [] = []
  cell_entries tree (row ∷ rows) = row_entries tree 0 row ++ cell_entries (suc tree) rows

  -- the value at an id, as `get full_cmp` of a map reads it
  abbrev pub value_at : List (FullNodeId × X) → FullNodeId → Option X
  value_at es id = lookup (is_at (full_cmp id)) es

  -- these cells have the entries of those
  abbrev pub HaveEntriesOf : Cells X → Cells X → Type 0
  HaveEntriesOf new old = (tree node : ℕ) → row_entries tree node new ≡ row_entries tree node old
