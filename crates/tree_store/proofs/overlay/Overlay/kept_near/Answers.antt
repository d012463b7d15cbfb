use Rattle.std.proofs.Common.{ap, sym, ◌∙◌, Some}
use Rattle.schema.specs.UpdateData.{update_data}
use Rattle.model.specs.World.{data_of}
use Rattle.tree_changes.specs.Changes.{changed_data}
use Rattle.tree_store.proofs.Laid.{ascending, data_by, placed_changed, placed_kept}
use Rattle.tree_store.proofs.overlay.Overlay.kept_near.Goals as goal

pub change_by-requires : goal.change_by-requires
change_by-requires c = ascending c.args.base.now.world (update_data c.args.self.update.now) c.args.self.decision.now c.requires

pub returns-in-Some-clause-data : goal.returns-in-Some-clause-data
returns-in-Some-clause-data c =
    c.kept_after.ensures.data ∙ ap (λ l. changed_data l c.in-Some.change.now (data_of c.args.base.now.world c.args.id)) c.as_slice.ensures.value
    ∙ data_by c.args.base.now.world (update_data c.args.self.update.now) c.args.self.decision.now c.args.id (Some c.in-Some.change.now) c.in-Some.ensures

pub returns-in-Some-clause-place : goal.returns-in-Some-clause-place
returns-in-Some-clause-place c =
    placed_changed c.args.base.now.world (update_data c.args.self.update.now) c.args.self.decision.now c.requires c.args.id c.in-Some.change.now c.kept_after.result
    (sym c.in-Some.ensures) c.kept_after.ensures.place

pub returns-in-None-clause-data : goal.returns-in-None-clause-data
returns-in-None-clause-data c =
    c.kept.ensures.data ∙ data_by c.args.base.now.world (update_data c.args.self.update.now) c.args.self.decision.now c.args.id _ c.in-None.ensures

pub returns-in-None-clause-place : goal.returns-in-None-clause-place
returns-in-None-clause-place c =
    placed_kept c.args.base.now.world (update_data c.args.self.update.now) c.args.self.decision.now c.requires c.args.id c.kept.result
    (sym c.in-None.ensures) c.kept.ensures.place
