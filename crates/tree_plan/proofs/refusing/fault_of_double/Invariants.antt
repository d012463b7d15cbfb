use Rattle.tree_plan.specs.Passes.{has}
use Rattle.tree_plan.proofs.IdMaps.{AreDone}
use Rattle.tree_plan.proofs.refusing.fault_of_double.Given as goal

abbrev pub invariant-loop-item : goal.invariant-loop-item
invariant-loop-item l = AreDone l.compared.named (λ id n. has l.reached id) l.item-index
