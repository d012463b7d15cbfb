use Rattle.std.proofs.Common.{arith}
use Rattle.schema.specs.UpdateData.{update_data}
use Rattle.tree_store.proofs.SlotCounts.{laid_fit}
use Rattle.tree_store.proofs.overlay.Overlay.know_count.Goals as goal

pub returns : goal.returns
returns c = omega (arith, laid_fit c.args.base.now (update_data c.args.self.update.now) c.args.self.decision.now c.requires, c.know_count.ensures.slots)
