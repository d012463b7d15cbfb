use Rattle.std.proofs.Common.{◌≡◌}
use Rattle.tree_changes.specs.LookUps.{IsRaisedUpTo}
use Rattle.tree_plan.specs.Settling.{IsSettledSoFar, IsSettledAt}
use Rattle.tree_plan.specs.Cases.{sent}
use Rattle.tree_plan.proofs.IdMaps.{AreDone}
use Rattle.tree_plan.proofs.settling.settle.Given as goal

abbrev pub invariant-loop-item : goal.invariant-loop-item
invariant-loop-item g l = record {
  world : g.L.LookUps.world l.look_ups ≡ g.L.LookUps.world l.fn.look_ups;
  count : IsRaisedUpTo (g.L.LookUps.asked l.fn.look_ups) l.item-index (g.L.LookUps.asked l.look_ups);
  so_far : IsSettledSoFar (g.L.LookUps.world l.fn.look_ups) (sent l.case) l.settled;
  done : AreDone l.case.compared.now.entered (λ c x. IsSettledAt (g.L.LookUps.world l.fn.look_ups) (sent l.case) c x.spot l.settled) l.item-index;
}
