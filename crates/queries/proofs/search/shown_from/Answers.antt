use Rattle.std.proofs.lemmas.Result.{IfOk-weaker}
use Rattle.queries.proofs.Fitting.{shown_with_top}
use Rattle.queries.proofs.search.shown_from.Goals as goal

pub returns : goal.returns
returns g c = IfOk-weaker c.with_top.result _ _ (λ all made. shown_with_top c.args.top c.in_ok-nodes.nodes.items all.items c.answer.result c.answer.ensures c.in_ok-nodes.ensures made) c.with_top.ensures
