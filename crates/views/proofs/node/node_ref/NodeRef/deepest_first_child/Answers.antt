use Rattle.std.proofs.Common.{refl}
use Rattle.std.specs.Prelude.{option_map}
use Rattle.model.specs.Lists.{first_child, deepest_first_child as deepest_of}
use Rattle.model.proofs.Lists.ListFacts.{deepest_first_is}
use Rattle.views.specs.Nodes.{world_at, id_at}
use Rattle.views.proofs.Depths.{deepest_is}
use Rattle.views.proofs.node.node_ref.NodeRef.deepest_first_child.Goals as goal

pub returns-clause-node : goal.returns-clause-node
returns-clause-node c =
    let w = world_at c.args.self in
    deepest_is (deepest_of w) (first_child w) (deepest_first_is w c.know.ensures.formed) (id_at c.args.self) (option_map id_at c.deepest.result) (c.deepest.ensures.exact (first_child w) refl)
