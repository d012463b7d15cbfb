use Rattle.std.proofs.Common.{◌≡◌, ◌+◌, ◌≤◌}
use Rattle.tree_changes.specs.LookUps.{IsRaisedAtLeast}
use Rattle.tree_plan.specs.Moves.{LeadsUp}
use Rattle.tree_plan.proofs.moves.is_reached.Given as goal

abbrev pub invariant-loop-step : goal.invariant-loop-step
invariant-loop-step g l = record {
  world : g.L.LookUps.world l.look_ups ≡ g.L.LookUps.world l.fn.look_ups;
  count : g.L.LookUps.asked l.look_ups + l.room ≤ g.L.LookUps.asked l.fn.look_ups + l.fn.room;
  least : IsRaisedAtLeast (g.L.LookUps.asked l.fn.look_ups) 0 (g.L.LookUps.asked l.look_ups);
  leads : LeadsUp (g.L.LookUps.world l.fn.look_ups) l.moved.rows.now l.moved.root l.id → LeadsUp (g.L.LookUps.world l.fn.look_ups) l.moved.rows.now l.moved.root l.fn.start;
}
