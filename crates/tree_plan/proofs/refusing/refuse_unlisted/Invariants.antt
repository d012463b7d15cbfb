use Rattle.tree_plan.specs.Refusing.{IsNowhere}
use Rattle.tree_plan.proofs.IdMaps.{AreDone}
use Rattle.tree_plan.proofs.refusing.refuse_unlisted.Given as goal

abbrev pub invariant-loop-item : goal.invariant-loop-item
invariant-loop-item l = AreDone l.compared.named (λ id n. ¬ (IsNowhere l.compared id n)) l.item-index
