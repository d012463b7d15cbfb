use Rattle.views.specs.ShownWorlds.{world_of}
use Rattle.views.specs.Nodes.{id_at}
use Rattle.views.proofs.Focusing.{focus_moved}
use Rattle.views.proofs.state_ref.StateRef.focus_in_tree.Goals as goal

pub returns-clause-node : goal.returns-clause-node
returns-clause-node c = focus_moved (world_of c.args.self.now) c.checked_focus.result (id_at c.node.result) c.checked_focus.ensures.focus c.node.ensures.is
