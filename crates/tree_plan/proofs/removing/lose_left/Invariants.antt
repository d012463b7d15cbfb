use Rattle.std.proofs.Common.{◌≡◌}
use Rattle.tree_plan.specs.Removing.{FindsGone, IsPlacedOrFound}
use Rattle.tree_plan.specs.Cases.{sent}
use Rattle.tree_plan.proofs.IdMaps.{AreDone}
use Rattle.tree_plan.proofs.removing.lose_left.Given as goal

abbrev pub ghost-lose : goal.ghost-lose
ghost-lose g a = g.before

abbrev pub invariant-loop-item : goal.invariant-loop-item
invariant-loop-item g l = record {
  found : FindsGone g.before (sent l.case) l.removing;
  trees : l.removing.trees ≡ l.fn.removing.trees;
  done : AreDone l.case.compared.now.left (λ id s. IsPlacedOrFound g.before (sent l.case) l.removing id) l.item-index;
}
