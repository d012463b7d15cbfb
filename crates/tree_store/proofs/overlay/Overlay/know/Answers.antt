use Rattle.schema.specs.UpdateData.{update_data}
use Rattle.model.proofs.Forest.Rooted.{state_formed}
use Rattle.tree_store.proofs.Laid.{state_laid}
use Rattle.tree_store.proofs.overlay.Overlay.know.Goals as goal

pub returns-clause-state : goal.returns-clause-state
returns-clause-state c = state_laid c.args.base.now.world (update_data c.args.self.update.now) c.args.self.decision.now c.requires c.know.ensures.state

pub returns-clause-formed : goal.returns-clause-formed
returns-clause-formed c = state_formed (state_laid c.args.base.now.world (update_data c.args.self.update.now) c.args.self.decision.now c.requires c.know.ensures.state)
