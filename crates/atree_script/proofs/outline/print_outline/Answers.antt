use Rattle.std.proofs.lemmas.Result.{on_ok_weaker}
use Rattle.std.proofs.KnownBytes.{Appends-trans}
use Rattle.std.specs.Io.KnownBytes.{Appends}
use Rattle.std.proofs.Common.{subst, flat_map}
use Rattle.views.specs.Nodes.{world_at, id_at}
use Rattle.views.specs.Descendants.{descendants}
use Rattle.views.specs.ShownWorlds.{world_of}
use Rattle.atree_script.specs.Outline.{node_line}
use Rattle.atree_script.proofs.TreeLines.{lines_of_tree}
use Rattle.atree_script.proofs.outline.print_outline.Goals as goal

pub returns : goal.returns
returns g c =
    let root = c.root-root.result in
    let w = world_at root in
    let same = c.root-root.ensures.world in
    let before = g.O.Write.contents c.args.out.now in
    let after = g.O.Write.contents c.print_below.new.out in
    on_ok_weaker c.print_below.result
    (λ below.
    subst (Appends before after) (lines_of_tree w (world_of c.args.state) same (id_at root) c.root-root.ensures.node)
    (Appends-trans before (g.O.Write.contents c.print_node.new.out) after (node_line w (id_at root)) (flat_map (node_line w) (descendants w (id_at root))) c.in_ok-print_node.ensures below))
    c.print_below.ensures
