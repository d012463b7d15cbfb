use Rattle.std.proofs.Common.{ap, ◌∙◌, Some}
use Rattle.schema.specs.UpdateData.{update_data}
use Rattle.model.specs.World.{data_of}
use Rattle.tree_changes.specs.Changes.{changed_data}
use Rattle.tree_store.proofs.Laid.{ascending, data_by}
use Rattle.tree_store.proofs.overlay.Overlay.data.Goals as goal

pub change-requires : goal.change-requires
change-requires c = ascending c.args.base.now.world (update_data c.args.self.update.now) c.args.self.decision.now c.requires

pub returns-in-Some : goal.returns-in-Some
returns-in-Some c =
    c.changed_node.ensures ∙ ap (λ l. changed_data l c.in-Some.change (data_of c.args.base.now.world c.args.id)) c.as_slice.ensures.value
    ∙ data_by c.args.base.now.world (update_data c.args.self.update.now) c.args.self.decision.now c.args.id (Some c.in-Some.change) c.in-Some.ensures

pub returns-in-None : goal.returns-in-None
returns-in-None c = c.get.ensures ∙ data_by c.args.base.now.world (update_data c.args.self.update.now) c.args.self.decision.now c.args.id _ c.in-None.ensures
