use Rattle.std.proofs.Common.{[]}
use Rattle.tree_plan.specs.Walking.{Walks}
use Rattle.tree_plan.proofs.verdicts.Found.write_named_on.Given as goal

abbrev pub ghost-write_node : goal.ghost-write_node
ghost-write_node g a = g.step

abbrev pub invariant-loop-row : goal.invariant-loop-row
invariant-loop-row g l = Walks g.step l.fn.self [] l.fn.rows (record { named = l.row; entered = l.fn.rows.entered }) l.fn.written l.written
