use Rattle.std.proofs.Common.{◌≡◌, take}
use Rattle.tree_changes.specs.LookUps.{IsRaisedUpTo}
use Rattle.tree_plan.specs.Regrafts.{AreRegrafted}
use Rattle.tree_plan.specs.Cases.{sent}
use Rattle.tree_plan.proofs.regrafting.regraft.Given as goal

abbrev pub invariant-loop-name : goal.invariant-loop-name
invariant-loop-name g l = record {
  world : g.L.LookUps.world l.look_ups ≡ g.L.LookUps.world l.fn.look_ups;
  asked : IsRaisedUpTo (g.L.LookUps.asked l.fn.look_ups) l.name-index (g.L.LookUps.asked l.look_ups);
  found : AreRegrafted (g.L.LookUps.world l.fn.look_ups) (sent l.case) l.case.compared.now l.removed (take l.name-index l.case.compared.now.gained.items) l.regrafted;
}
