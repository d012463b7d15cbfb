use Rattle.std.proofs.Common.{sym, ◌∙◌}
use Rattle.views.specs.ShownWorlds.{world_of}
use Rattle.model.proofs.Forest.PlaceOf.{parent_is_node, stands_at_place}
use Rattle.views.proofs.node.node_ref.NodeRef.parent_and_index.Goals as goal

pub node-requires : goal.node-requires
node-requires c =
    parent_is_node (world_of c.args.self.state) (c.in-Some.parent, c.in-Some.index) c.args.self.id
    (stands_at_place (world_of c.args.self.state) c.args.self.id (c.in-Some.parent, c.in-Some.index) (sym c.args.self.placed ∙ c.in-Some.is))
