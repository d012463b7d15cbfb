use Rattle.schema.specs.UpdateData.{update_data}
use Rattle.model.specs.Update.{merged_world}
use Rattle.model.proofs.Update.RebuildIsThere.{rebuild_exists}
use Rattle.tree_plan.proofs.deciding.decide_by_passes.Given as goal

abbrev pub ghost-conclude : goal.ghost-conclude
ghost-conclude g a = record {
  old = g.L.LookUps.world a.look_ups.now;
  update = update_data a.update.now;
  new = (rebuild_exists (merged_world (g.L.LookUps.world a.look_ups.now) (update_data a.update.now))).0;
}
