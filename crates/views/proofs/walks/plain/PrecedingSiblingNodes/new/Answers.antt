use Rattle.std.proofs.Common.{map, sym, ◌∙◌, ap}
use Rattle.std.specs.Prelude.{reverse}
use Rattle.views.proofs.Reversed.{map_reverse}
use Rattle.views.specs.Nodes.{world_at}
use Rattle.views.specs.PlainWalks.{node_in, range_left}
use Rattle.views.proofs.walks.plain.PrecedingSiblingNodes.new.Goals as goal

pub returns : goal.returns
returns c =
    ap (λ w. reverse (map (node_in w) (range_left c.before-2.result))) c.before-2.ensures.world
    ∙ sym (map_reverse (node_in (world_at c.args.node)) (range_left c.before-2.result)) ∙ ap (map (node_in (world_at c.args.node))) c.before-2.ensures.siblings
