use Rattle.std.proofs.Common.{sym, ap, ◌∙◌}
use Rattle.model.specs.World.{root_named}
use Rattle.tree_store.specs.Overlays.{laid_over}
use Rattle.tree_store.proofs.Laid.{root_at, root_there}
use Rattle.tree_store.proofs.overlay.Overlay.root.Goals as goal

pub unreachable-requires : goal.unreachable-requires
unreachable-requires c = root_there (laid_over c.args.base.now.world c.args.self) c.know.ensures.state (c.in-None.ensures ∙ ap (root_named (laid_over c.args.base.now.world c.args.self)) c.root.ensures ∙ root_at (laid_over c.args.base.now.world c.args.self) c.know.ensures.state)

pub returns : goal.returns
returns c = sym (c.in-Some.ensures ∙ ap (root_named (laid_over c.args.base.now.world c.args.self)) c.root.ensures ∙ root_at (laid_over c.args.base.now.world c.args.self) c.know.ensures.state)
