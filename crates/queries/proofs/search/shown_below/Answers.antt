use Rattle.std.proofs.Common.{List, rules, subst}
use Rattle.std.proofs.lemmas.Result.{IfOk-weaker}
use Rattle.model.specs.declared.FullNodeId.{FullNodeId}
use Rattle.model.specs.declared.filters.FilterResult.{FilterResult}
use Rattle.views.specs.Nodes.{world_at, id_at}
use Rattle.views.specs.FilteredWalks.{descendants_walk}
use Rattle.queries.specs.Found.{searched_below}
use Rattle.queries.proofs.Drained.{gives_shown, shown_by}
use Rattle.queries.proofs.search.shown_below.Goals as goal

pub returns : goal.returns
returns g c =
    let w = world_at c.args.top in
    let ids : (FullNodeId → FilterResult) → List FullNodeId = λ f. searched_below f w (id_at c.args.top) in
    IfOk-weaker c.nodes_of.result _ _ (λ nodes drained.
    shown_by w ids nodes.items
    (λ n r said. subst (λ m. g.F.Filter.answers c.args.filter.now m r) said.shows (search rules))
    (gives_shown _ descendants_walk _ w ids c.filtered_descendants.result nodes.items c.filtered_descendants.ensures.filter c.filtered_descendants.ensures.begins drained))
    c.nodes_of.ensures
