use Rattle.std.proofs.Common.{◌≡◌, ◌+◌, ◌≤◌, Some}
use Rattle.model.specs.World.{Place}
use Rattle.tree_changes.specs.LookUps.{IsRaisedAtLeast}
use Rattle.tree_plan.specs.Moves.{came_to, HasWay}
use Rattle.tree_plan.proofs.IdMaps.{AreDone}
use Rattle.tree_plan.proofs.moves.have_ways.Given as goal

abbrev pub invariant-loop-item : goal.invariant-loop-item
invariant-loop-item g l = record {
  world : g.L.LookUps.world l.look_ups ≡ g.L.LookUps.world l.fn.look_ups;
  count : g.L.LookUps.asked l.look_ups + l.room ≤ g.L.LookUps.asked l.fn.look_ups + 15;
  least : IsRaisedAtLeast (g.L.LookUps.asked l.fn.look_ups) 0 (g.L.LookUps.asked l.look_ups);
  done : AreDone l.moved.rows.now (λ id x. (p : Place) → came_to x ≡ Some p → HasWay (g.L.LookUps.world l.fn.look_ups) l.moved.rows.now l.moved.left.now l.moved.root id p) l.item-index;
}
