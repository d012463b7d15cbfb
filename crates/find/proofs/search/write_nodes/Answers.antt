use Rattle.std.proofs.Common.{rules, ◌≡◌, [], flat_map, take_all, subst}
use Rattle.std.specs.Io.KnownBytes.{Appends}
use Rattle.views.specs.Nodes.{world_at, id_at}
use Rattle.find.specs.Printed.{node_text}
use Rattle.find.proofs.Items.{item_written}
use Rattle.find.proofs.Listing.{all_written, node_here, some_printed}
use Rattle.find.proofs.search.write_nodes.Goals as goal

pub write_node-requires-clause-world : goal.write_node-requires-clause-world
write_node-requires-clause-world g c = node_here (world_at c.args.top) c.args.nodes.now c.loop-node.node-index c.node-item.result c.loop-node-test.true c.node-item.is c.requires.world

pub loop-node-preserved : goal.loop-node-preserved
loop-node-preserved g c =
    let text = node_text (world_at c.args.top) (id_at c.args.top) in
    item_written (λ n. text (id_at n)) c.args.nodes.now c.loop-node.node-index c.node-item.result
    (g.O.Write.contents c.args.output.now) (g.O.Write.contents c.loop-node.output) (g.O.Write.contents c.write_node.new.output)
    c.loop-node-test.true c.loop-node.invariant
    (subst (λ n. Appends (g.O.Write.contents c.loop-node.output) (g.O.Write.contents c.write_node.new.output) (text (id_at n))) c.node-item.is c.in_ok-write_node.ensures)

pub returns : goal.returns
returns g c =
    let w = world_at c.args.top in
    let text = node_text w (id_at c.args.top) in
    let before = g.O.Write.contents c.args.output.now in
    let after = g.O.Write.contents c.loop-node.output in
    let some : c.args.nodes.now ≡ [] → ⊥ = search rules in
    subst (Appends before after) (some_printed w (id_at c.args.top) c.args.nodes.now some)
    (all_written text c.args.nodes.now before after
    (subst (λ ns. Appends before after (flat_map (λ n. text (id_at n)) ns)) (take_all c.loop-node.node-index c.args.nodes.now c.loop-node-test.false) c.loop-node.invariant))
