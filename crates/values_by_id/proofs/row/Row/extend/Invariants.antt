use Rattle.std.proofs.Common.{◌≡◌, ◌+◌, length}
use Rattle.std.specs.Prelude.{is_some, count_by}
use Rattle.values_by_id.specs.Cells.{HaveEntriesOf}
use Rattle.values_by_id.proofs.row.Row.extend.Given as goal

abbrev pub invariant-loop : goal.invariant-loop
invariant-loop g l = record {
  same : HaveEntriesOf l.self-inside.cells.items l.initial.self-inside.cells.items;
  count : length l.self-inside.cells.items ≡ length l.initial.self-inside.cells.items + l.counter;
  used : l.self-inside.used ≡ count_by is_some l.self-inside.cells.items;
}
