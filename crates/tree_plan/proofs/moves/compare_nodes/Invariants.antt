use Rattle.std.proofs.Common.{◌≡◌}
use Rattle.schema.specs.UpdateData.{update_data}
use Rattle.tree_changes.specs.LookUps.{IsRaisedBy}
use Rattle.tree_plan.specs.Moves.{AreMoves}
use Rattle.tree_plan.proofs.moves.compare_nodes.Given as goal

abbrev pub invariant-loop-entry : goal.invariant-loop-entry
invariant-loop-entry g l = record {
  world : g.L.LookUps.world l.look_ups ≡ g.L.LookUps.world l.fn.look_ups;
  count : IsRaisedBy (g.L.LookUps.asked l.fn.look_ups) l.entry (g.L.LookUps.asked l.look_ups);
  moves : AreMoves (g.L.LookUps.world l.fn.look_ups) (update_data l.update) l.entry l.moving;
}
