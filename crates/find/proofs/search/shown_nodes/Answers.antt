use Rattle.std.proofs.Common.{rules, ◌≡◌}
use Rattle.std.proofs.lemmas.Result.{IfOk-weaker}
use Rattle.model.specs.Filters.{common_filter}
use Rattle.views.specs.Descendants.{filtered_descendants}
use Rattle.views.specs.Nodes.{world_at, id_at}
use Rattle.find.proofs.Listing.{with_the_top}
use Rattle.find.proofs.search.shown_nodes.Goals as goal

pub returns : goal.returns
returns c =
    let w = world_at c.args.top in
    let top = id_at c.args.top in
    let same : c.answer.result ≡ common_filter w top = c.answer.ensures c.in_ok-free.ensures in
    IfOk-weaker c.with_top.result _ _ (λ all made.
    with_the_top c.args.top (filtered_descendants (common_filter w) w top) c.in_ok-below.below.items all.items c.answer.result (common_filter w top) same c.in_ok-below.ensures made) c.with_top.ensures
