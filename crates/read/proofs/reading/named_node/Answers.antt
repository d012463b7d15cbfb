use Rattle.std.proofs.Common.{option_map}
use Rattle.views.specs.ShownWorlds.{world_of}
use Rattle.views.specs.Nodes.{id_at}
use Rattle.session.proofs.Naming.{found_is_named}
use Rattle.read.proofs.reading.named_node.Goals as goal

pub returns-clause-node : goal.returns-clause-node
returns-clause-node c =
    found_is_named (world_of c.args.state) c.args.name.0 c.args.name.1 (option_map id_at c.node_by_tree_local_id.result) c.know.ensures.state c.node_by_tree_local_id.ensures.node
