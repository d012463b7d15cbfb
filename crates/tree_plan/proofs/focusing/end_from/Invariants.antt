use Rattle.std.proofs.Common.{◌≡◌, ◌*◌}
use Rattle.tree_changes.specs.LookUps.{IsRaisedUpTo}
use Rattle.tree_plan.proofs.FocusWays.{OldWay}
use Rattle.tree_plan.proofs.focusing.end_from.Given as goal

abbrev pub invariant-loop-depth : goal.invariant-loop-depth
invariant-loop-depth g l = record {
  world : g.L.LookUps.world l.look_ups ≡ g.L.LookUps.world l.fn.look_ups;
  asked : IsRaisedUpTo (g.L.LookUps.asked l.fn.look_ups) (2 * l._depth) (g.L.LookUps.asked l.look_ups);
  way : OldWay (g.L.LookUps.world l.fn.look_ups) l.id l._depth;
}
