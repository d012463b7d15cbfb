use Rattle.std.proofs.Common.{◌≡◌, flat_map, take_all, subst}
use Rattle.std.specs.Io.KnownBytes.{Appends}
use Rattle.views.specs.Nodes.{world_at, id_at}
use Rattle.find.specs.Near.{near_line}
use Rattle.find.proofs.Items.{item_written}
use Rattle.find.proofs.Listing.{all_written, node_here}
use Rattle.find.proofs.near.write_all_near.Goals as goal

pub write_near-requires-clause-world : goal.write_near-requires-clause-world
write_near-requires-clause-world g c = node_here (world_at c.args.top) c.args.nodes.now c.loop-node.node-index c.node-item.result c.loop-node-test.true c.node-item.is c.requires.world

pub loop-node-preserved : goal.loop-node-preserved
loop-node-preserved g c =
    let text = near_line c.args.how.now (world_at c.args.top) in
    item_written (λ n. text (id_at n)) c.args.nodes.now c.loop-node.node-index c.node-item.result
    (g.O.Write.contents c.args.out.now) (g.O.Write.contents c.loop-node.out) (g.O.Write.contents c.write_near.new.out)
    c.loop-node-test.true c.loop-node.invariant
    (subst (λ n. Appends (g.O.Write.contents c.loop-node.out) (g.O.Write.contents c.write_near.new.out) (text (id_at n))) c.node-item.is c.in_ok-write_near.ensures)

pub returns : goal.returns
returns g c =
    let text = near_line c.args.how.now (world_at c.args.top) in
    let before = g.O.Write.contents c.args.out.now in
    let after = g.O.Write.contents c.loop-node.out in
    all_written text c.args.nodes.now before after
    (subst (λ ns. Appends before after (flat_map (λ n. text (id_at n)) ns)) (take_all c.loop-node.node-index c.args.nodes.now c.loop-node-test.false) c.loop-node.invariant)
