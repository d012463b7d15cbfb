use Rattle.std.proofs.Common.{◌≢◌}
use Rattle.tree_plan.proofs.IdMaps.{AreDone}
use Rattle.tree_plan.proofs.moves.change_of.Given as goal

abbrev pub invariant-loop-row : goal.invariant-loop-row
invariant-loop-row l = AreDone l.rows (λ c _. c ≢ l.id) l.row-index
