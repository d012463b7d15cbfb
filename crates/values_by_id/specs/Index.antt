-- What is kept by id.
use Rattle.std.specs.Prelude.{◌≡◌, List, ◌++◌, None, length, IsSome, ◌<◌, ◌^◌}
use Rattle.model.specs.declared.FullNodeId.{FullNodeId}
use Rattle.values_by_id.specs.declared.index.IdIndex.TheInside.{Inside}
use Rattle.values_by_id.specs.Cells.{cell_entries, cell_at, value_at}

module _ {X : Type 0} where
  -- the entries in cells, and the others
  abbrev pub entries_of : Inside X → List (FullNodeId × X)
  entries_of a = cell_entries 0 a.rows ++ a.others

  -- what has a value in a cell is not among the others, and the entries are counted
  pub record IsKept (a : Inside X) : Type 0 where
    pub apart : (id : FullNodeId) → IsSome (cell_at a.rows id) → value_at a.others id ≡ None
    pub count : length (entries_of a) ≡ a.len
    pub bound : a.len < 2 ^ 63
