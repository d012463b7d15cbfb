use Rattle.std.proofs.Common.{◌∙◌, sym, ap}
use Rattle.views.specs.ShownWorlds.{world_of}
use Rattle.views.proofs.Depths.{item_last, item_deeper}
use Rattle.views.proofs.walks.deepest.LastShownWayDown.below.Goals as goal

pub returns-clause-deeper : goal.returns-clause-deeper
returns-clause-deeper g c = item_deeper (world_of c.args.state) c.know.ensures.formed c.args.node.id c.previous_shown.result c.previous_shown.ensures.there c.previous_shown.ensures.below

pub returns-clause-exact : goal.returns-clause-exact
returns-clause-exact g c = λ step leads.
    item_last (world_of c.args.state) c.know.ensures.formed leads.0 c.args.node.id c.child_count-count.result c.previous_shown.result c.child_count-count.ensures (c.previous_shown.ensures.exact leads.0 leads.1)
    ∙ ap (λ h. h c.args.node.id) (sym leads.2)
