use Rattle.std.proofs.Common.{[], refl}
use Rattle.schema.specs.UpdateData.{update_data}
use Rattle.fed_tree.specs.Carried.{with_tree}
use Rattle.fed_tree.proofs.Carrying.{updates_tree, makes_tree, refused_first}
use Rattle.fed_tree.proofs.stage.Stage.update.Goals as goal

pub returns-in_err-new-in-None : goal.returns-in_err-new-in-None
returns-in_err-new-in-None g c =
    ([], refused_first c.args.self.now (update_data c.args.update) c.from_residual.result c.in_err-new-in-None.field-0.0 c.from_residual.ensures.1 c.in-None.is c.in_err-new-in-None.ensures.err, refl)

pub returns-in-Some : goal.returns-in-Some
returns-in-Some g c =
    let h = c.update_and_process_changes.ensures in
    let new = c.update_and_process_changes.new.self in
    (h.0, updates_tree c.args.self.now (with_tree c.args.self.now new) c.in-Some.tree new (update_data c.args.update) h.0 c.update_and_process_changes.result c.in-Some.is refl h.1, h.2)

pub returns-in_ok-new-in-None : goal.returns-in_ok-new-in-None
returns-in_ok-new-in-None g c =
    let made = c.in_ok-new-in-None.field-0 in
    ([], makes_tree c.args.self.now (with_tree c.args.self.now made) made (update_data c.args.update) c.in-None.is c.in_ok-new-in-None.ensures.ok refl, refl)
