use Rattle.schema.specs.UpdateData.{update_data}
use Rattle.tree_store.proofs.Laid.{focus_laid}
use Rattle.tree_store.proofs.overlay.Overlay.focus.Goals as goal

pub returns : goal.returns
returns c = focus_laid c.args.base.now.world (update_data c.args.self.update.now) c.args.self.decision.now c.requires c.know.ensures.state
