use Rattle.queries.proofs.Listing.{labels_more}
use Rattle.queries.proofs.listed.labels_of.Goals as goal

pub loop-node-preserved : goal.loop-node-preserved
loop-node-preserved c =
    labels_more c.args.role c.args.nodes.now c.loop-node.node-index c.node-item.result c.loop-node.labels.items c.add_label.new.labels.items c.in_ok-label.label
    c.loop-node-test.true c.node-item.is c.loop-node.invariant c.in_ok-label.ensures c.in_ok-add_label.ensures
