use Rattle.std.proofs.Common.{◌≡◌, vec_len}
use Rattle.std.specs.Prelude.{is_some, count_by}
use Rattle.values_by_id.specs.Cells.{HaveEntriesOf}
use Rattle.values_by_id.proofs.row.Row.trim.Given as goal

abbrev pub invariant-loop-self : goal.invariant-loop-self
invariant-loop-self g l = record {
  same : HaveEntriesOf l.self-inside.cells.items l.initial.self-inside.cells.items;
  used : l.self-inside.used ≡ count_by is_some l.self-inside.cells.items;
}

abbrev pub decreases-loop-self : goal.decreases-loop-self
decreases-loop-self g l = vec_len l.self-inside.cells
