use Rattle.std.proofs.Common.{◌≡◌}
use Rattle.tree_plan.specs.Cases.{sent}
use Rattle.tree_plan.proofs.RefusingSteps.{IsSearching}
use Rattle.tree_plan.proofs.refusing.work_off.Given as goal

abbrev pub invariant-loop-position : goal.invariant-loop-position
invariant-loop-position g l = record {
  world : g.L.LookUps.world l.look_ups ≡ g.L.LookUps.world l.fn.look_ups;
  searching : IsSearching (g.L.LookUps.world l.fn.look_ups) (sent l.case) l.position l.fn.search l.search;
}
