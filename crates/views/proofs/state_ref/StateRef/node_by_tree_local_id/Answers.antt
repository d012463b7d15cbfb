use Rattle.std.proofs.Common.{sym, subst}
use Rattle.views.specs.Nodes.{ShowsThe}
use Rattle.views.specs.ShownWorlds.{world_of}
use Rattle.views.proofs.Showing.{found_by_name, not_found_by_name}
use Rattle.views.proofs.state_ref.StateRef.node_by_tree_local_id.Goals as goal

pub returns : goal.returns
returns c = found_by_name (world_of c.args.self.now) c.know.ensures.state.known_once c.args.node c.args.tree c.in_ok-tree.tree c.node_by_id.result (sym c.in_ok-tree.ensures) c.node_by_id.ensures

pub returns-in_err-tree : goal.returns-in_err-tree
returns-in_err-tree c = subst (ShowsThe (world_of c.args.self.now) _) (sym c.from_residual.ensures) (not_found_by_name (world_of c.args.self.now) c.know.ensures.state.known_once c.args.node c.args.tree (sym c.in_err-tree.ensures))
