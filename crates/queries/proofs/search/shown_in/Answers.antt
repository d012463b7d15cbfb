use Rattle.std.proofs.lemmas.Result.{IfOk-weaker}
use Rattle.views.specs.ShownWorlds.{world_of}
use Rattle.queries.proofs.Fitting.{shown_in_state}
use Rattle.queries.proofs.search.shown_in.Goals as goal

pub returns : goal.returns
returns g c = IfOk-weaker c.shown_from.result _ _ (λ nodes shown. shown_in_state (world_of c.args.state) c.root.result nodes.items c.root.ensures.world c.root.ensures.node shown) c.shown_from.ensures
