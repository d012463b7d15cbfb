-- What rows of cells and an index end as, where a reference to one of the values is lent.
use Rattle.std.specs.Prelude.{◌≡◌, ℕ, Option, Some, OnSome, slice_set}
use Rattle.std.specs.Borrow.{Lends, LendsIf, LendsSo, Fml, RattleType, MutBor}
use Rattle.std.specs.BTreeMap.{is_at}
use Rattle.std.specs.Map.{set_value}
use Rattle.model.specs.declared.FullNodeId.{FullNodeId}
use Rattle.model.specs.FullIds.{full_cmp}
use Rattle.values_by_id.specs.declared.row.Row.{Row}
use Rattle.values_by_id.specs.declared.rows.Rows.{Rows}
use Rattle.values_by_id.specs.contracts.row.Row.{the_row as row_type}
use Rattle.values_by_id.specs.contracts.rows.Rows.{the_row as rows_type}
use Rattle.values_by_id.specs.declared.others.Others.{Others}
use Rattle.values_by_id.specs.contracts.others.Others.{the_row as others_type}
use Rattle.values_by_id.specs.declared.index.IdIndex.{IdIndex}
use Rattle.values_by_id.specs.contracts.index.IdIndex.{the_row as index_type}
use Rattle.values_by_id.specs.Cells.{with_cell}

module _ (T : RattleType) where
  abbrev pub lends_in_row : MutBor (Row T.Denot) → ℕ → MutBor T.Denot → Fml
  lends_in_row s index r = Lends (row_type T) T s r (λ w. slice_set s.now index (Some w))

  abbrev pub lends_cell : MutBor (Rows T.Denot) → FullNodeId → MutBor T.Denot → Fml
  lends_cell s id r = Lends (rows_type T) T s r (λ w. with_cell s.now id (Some w))

  -- the value of the id's entry ends as what was last written
  abbrev pub lends_value : MutBor (Others T.Denot) → FullNodeId → MutBor T.Denot → Fml
  lends_value s id r = Lends (others_type T) T s r (λ w. set_value (is_at (full_cmp id)) s.now w)

  abbrev pub lends_other : MutBor (Others T.Denot) → FullNodeId → Option (MutBor T.Denot) → Fml
  lends_other s id r = LendsIf (others_type T) T s r (λ w. set_value (is_at (full_cmp id)) s.now w) s.now

  -- the value of an id ends as what was last written, and at `None` all stays
  abbrev pub lends_get : MutBor (IdIndex T.Denot) → FullNodeId → Option (MutBor T.Denot) → Fml
  lends_get s id r = LendsSo (index_type T) T s r (λ n w. OnSome r (n ≡ set_value (is_at (full_cmp id)) s.now w)) (λ n. n ≡ s.now)
