use Rattle.std.proofs.Common.{refl}
use Rattle.std.proofs.lemmas.Result.{IfOk-weaker}
use Rattle.model.specs.Filters.{common_filter}
use Rattle.views.specs.Descendants.{filtered_descendants}
use Rattle.views.specs.Nodes.{world_at, id_at}
use Rattle.compare.proofs.ShownRows.{from_top}
use Rattle.compare.proofs.rows.shown_from.Goals as goal

pub returns : goal.returns
returns c =
    let n = c.args.top in
    let w = world_at n in
    IfOk-weaker c.with_top.result _ _ (λ all e.
    from_top w n (filtered_descendants (common_filter w) w (id_at n)) c.in_ok-nodes.nodes.items all.items c.common_filter.result refl c.common_filter.ensures c.in_ok-nodes.ensures e)
    c.with_top.ensures
