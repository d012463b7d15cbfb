use Rattle.std.proofs.Common.{◌≡◌}
use Rattle.schema.specs.UpdateData.{update_data}
use Rattle.tree_changes.specs.LookUps.{IsRaisedBy}
use Rattle.tree_plan.specs.Comparisons.{AreCompared}
use Rattle.tree_plan.proofs.Entries.{AreNamedOnce}
use Rattle.tree_plan.proofs.comparing.compare.Given as goal

abbrev pub invariant-loop-entry : goal.invariant-loop-entry
invariant-loop-entry g l = record {
  world : g.L.LookUps.world l.look_ups ≡ g.L.LookUps.world l.fn.look_ups;
  count : IsRaisedBy (g.L.LookUps.asked l.fn.look_ups) l.entry (g.L.LookUps.asked l.look_ups);
  once : AreNamedOnce (update_data l.update).nodes;
  compared : AreCompared (g.L.LookUps.world l.fn.look_ups) (update_data l.update) l.entry l.comparing;
}
