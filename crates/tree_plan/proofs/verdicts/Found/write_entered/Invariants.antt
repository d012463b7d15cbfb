use Rattle.std.proofs.Common.{[]}
use Rattle.tree_plan.specs.Walking.{Walks}
use Rattle.tree_plan.proofs.verdicts.Found.write_entered.Given as goal

abbrev pub ghost-write_named : goal.ghost-write_named
ghost-write_named g a = g.step

abbrev pub ghost-write_arrival : goal.ghost-write_arrival
ghost-write_arrival g a = g.step

abbrev pub invariant-loop-entered : goal.invariant-loop-entered
invariant-loop-entered g l = Walks g.step l.fn.self [] l.fn.rows (record { named = l.named; entered = l.entered }) l.fn.written l.written
