use Rattle.queries.proofs.Listing.{roles_more}
use Rattle.queries.proofs.listed.roles_of.Goals as goal

pub loop-node-preserved : goal.loop-node-preserved
loop-node-preserved c =
    roles_more c.args.nodes.now c.loop-node.node-index c.node-item.result c.loop-node.roles.items c.add_role.new.roles.items c.role.result
    c.loop-node-test.true c.node-item.is c.loop-node.invariant c.role.ensures c.in_ok-add_role.ensures
