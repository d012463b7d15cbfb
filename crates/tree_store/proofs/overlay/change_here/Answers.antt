use Rattle.std.proofs.Common.{arith}
use Rattle.tree_store.proofs.Searches.{found_here}
use Rattle.tree_store.proofs.overlay.change_here.Goals as goal

pub returns-then-is_same : goal.returns-then-is_same
returns-then-is_same c = found_here c.args.changes.now c.requires c.args.id c.args.index _ (omega (arith, c.if-index-changes.false)) (c.is_same.ensures.0 c.if-is_same.true)
