use Rattle.std.proofs.Common.{rules}
use Rattle.std.proofs.lemmas.Result.{IfOk-weaker}
use Rattle.model.specs.Filters.{common_filter}
use Rattle.views.specs.Descendants.{filtered_descendants}
use Rattle.views.specs.FilteredWalks.{descendants_walk}
use Rattle.views.specs.Nodes.{world_at, id_at}
use Rattle.views.proofs.Drained.{all_in_world, gives_all}
use Rattle.compare.proofs.rows.shown_below.Goals as goal

pub returns : goal.returns
returns c =
    let w = world_at c.args.top in
    let walk = c.filtered_descendants.result in
    IfOk-weaker c.nodes_of.result _ _ (λ nodes drained. record {
      world = all_in_world _ descendants_walk _ w (λ f. filtered_descendants f w (id_at c.args.top)) walk nodes.items c.filtered_descendants.ensures.begins drained;
      list = gives_all _ descendants_walk _ w (common_filter w) (search rules) (λ f. filtered_descendants f w (id_at c.args.top)) walk nodes.items c.filtered_descendants.ensures.filter c.filtered_descendants.ensures.begins drained;
    })
    c.nodes_of.ensures
