use Rattle.std.proofs.Common.{◌≡◌}
use Rattle.tree_plan.specs.Refusing.{IsKept}
use Rattle.tree_plan.proofs.IdMaps.{AreDone}
use Rattle.tree_plan.proofs.refusing.refuse_misplaced.Given as goal

abbrev pub invariant-loop-item : goal.invariant-loop-item
invariant-loop-item g l = record {
  world : g.L.LookUps.world l.look_ups ≡ g.L.LookUps.world l.fn.look_ups;
  count : g.L.LookUps.asked l.look_ups ≡ g.L.LookUps.asked l.fn.look_ups;
  done : AreDone l.settled.doubles.items (λ id place. ¬ (IsKept l.removed place)) l.item-index;
}
