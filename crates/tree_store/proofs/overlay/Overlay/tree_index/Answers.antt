use Rattle.std.proofs.Common.{ap, ◌∙◌}
use Rattle.std.specs.Prelude.{option_and_then}
use Rattle.schema.specs.UpdateData.{update_data}
use Rattle.tree_store.proofs.Laid.{index_laid}
use Rattle.tree_store.proofs.overlay.Overlay.tree_index.Goals as goal

pub returns : goal.returns
returns c =
    let r = c.record.ensures in
    c.index_in_record.ensures ∙ ap (option_and_then (λ t. t.index)) r.2
    ∙ index_laid c.args.base.now.world (update_data c.args.self.update.now) c.args.self.decision.now c.requires c.args.name r.0 r.1
