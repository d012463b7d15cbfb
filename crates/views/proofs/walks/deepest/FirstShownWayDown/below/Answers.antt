use Rattle.std.proofs.Common.{◌∙◌, sym, ap}
use Rattle.views.specs.ShownWorlds.{world_of}
use Rattle.views.proofs.Depths.{item_first, item_deeper}
use Rattle.views.proofs.walks.deepest.FirstShownWayDown.below.Goals as goal

pub returns-clause-deeper : goal.returns-clause-deeper
returns-clause-deeper g c = item_deeper (world_of c.args.state) c.know.ensures.formed c.args.node.id c.next_shown.result c.next_shown.ensures.there c.next_shown.ensures.below

pub returns-clause-exact : goal.returns-clause-exact
returns-clause-exact g c = λ step leads.
    item_first (world_of c.args.state) c.know.ensures.formed leads.0 c.args.node.id c.next_shown.result (c.next_shown.ensures.exact leads.0 leads.1)
    ∙ ap (λ h. h c.args.node.id) (sym leads.2)
