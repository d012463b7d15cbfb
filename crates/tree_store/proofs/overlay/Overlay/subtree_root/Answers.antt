use Rattle.std.proofs.Common.{ap, ◌∙◌}
use Rattle.schema.specs.UpdateData.{update_data}
use Rattle.tree_store.specs.Overlays.{root_recorded}
use Rattle.tree_store.proofs.Laid.{root_laid}
use Rattle.tree_store.proofs.overlay.Overlay.subtree_root.Goals as goal

pub returns : goal.returns
returns c =
    let r = c.record.ensures in
    c.root_in_record.ensures ∙ ap root_recorded r.2
    ∙ root_laid c.args.base.now.world (update_data c.args.self.update.now) c.args.self.decision.now c.requires c.args.name r.0 r.1
