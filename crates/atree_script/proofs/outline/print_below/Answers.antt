use Rattle.std.proofs.Common.{[], flat_map, map, ap, subst, ◌∙◌}
use Rattle.std.specs.Io.KnownBytes.{Appends}
use Rattle.std.proofs.KnownBytes.{Appends-trans}
use Rattle.std.proofs.lemmas.List.{flat_map_more}
use Rattle.std.proofs.lemmas.Iterator.Consumers.{YieldsList-from_first, YieldsList-end}
use Rattle.views.specs.AllNodes.{descendants_left}
use Rattle.views.specs.Descendants.{descendants}
use Rattle.views.specs.Nodes.{world_at, id_at}
use Rattle.views.specs.PlainWalks.{node_in, node_of}
use Rattle.atree_script.proofs.TreeLines.{line_at, lines_of_views}
use Rattle.atree_script.proofs.outline.print_below.Goals as goal

pub loop-node-preserved : goal.loop-node-preserved
loop-node-preserved g c =
    let before = g.O.Write.contents c.args.out.now in
    let after = g.O.Write.contents c.print_node.new.out in
    subst (Appends before after) (flat_map_more line_at [] c.loop-node.yielded c.in-Some.node)
    (Appends-trans before (g.O.Write.contents c.loop-node.out) after (flat_map line_at c.loop-node.yielded) (line_at c.in-Some.node) c.loop-node.invariant c.in_ok-print_node.ensures)

pub returns : goal.returns
returns g c =
    let w = world_at c.args.top in
    let below = descendants w (id_at c.args.top) in
    let begins = ap descendants_left c.into_iter-node-iterator.ensures.into_iter_gives ∙ c.descendants-node-items.ensures in
    let all = YieldsList-from_first node_of descendants_left (map (node_in w) below) begins in
    let end = YieldsList-end all c.loop-node.yielded c.loop-node.node-iterator c.loop-node.yielded_by c.next.result c.next.new.self c.in-None.is c.next.ensures.steps in
    subst (Appends (g.O.Write.contents c.args.out.now) (g.O.Write.contents c.loop-node.out)) (lines_of_views w c.loop-node.yielded below end.0) c.loop-node.invariant
