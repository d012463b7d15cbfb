use Rattle.std.proofs.Common.{map}
use Rattle.std.specs.Map.Iter.{deref}
use Rattle.tree_plan.specs.Walking.{Walks}
use Rattle.tree_plan.proofs.verdicts.Found.write_removed.Given as goal

abbrev pub ghost-write_before : goal.ghost-write_before
ghost-write_before g a = g.step

abbrev pub ghost-write_gone : goal.ghost-write_gone
ghost-write_gone g a = g.step

abbrev pub invariant-loop-id : goal.invariant-loop-id
invariant-loop-id g l = Walks g.step l.fn.self (map deref l.yielded) (record { named = 0; entered = 0 }) l.rows l.fn.written l.written
