use Rattle.std.proofs.Common.{◌≡◌, ◌+◌, ◌*◌}
use Rattle.tree_changes.specs.LookUps.{IsRaisedUpTo}
use Rattle.tree_plan.specs.Cases.{sent}
use Rattle.tree_plan.proofs.FocusWays.{NewWay}
use Rattle.tree_plan.proofs.focusing.end_after.Given as goal

abbrev pub invariant-loop-depth : goal.invariant-loop-depth
invariant-loop-depth g l = record {
  world : g.L.LookUps.world l.look_ups ≡ g.L.LookUps.world l.fn.look_ups;
  asked : IsRaisedUpTo (g.L.LookUps.asked l.fn.look_ups) (1 + 2 * l._depth) (g.L.LookUps.asked l.look_ups);
  way : NewWay (g.L.LookUps.world l.fn.look_ups) (sent l.case) l.id l._depth;
}
