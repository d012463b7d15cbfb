use Rattle.std.proofs.Common.{rules}
use Rattle.std.proofs.lemmas.Result.{IfOk-weaker}
use Rattle.model.specs.Filters.{common_filter}
use Rattle.views.specs.Nodes.{world_at, id_at}
use Rattle.views.specs.FilteredWalks.{descendants_walk}
use Rattle.views.proofs.Drained.{all_in_world, gives_all}
use Rattle.find.proofs.Freed.{answers_there}
use Rattle.find.proofs.search.nodes_below.Goals as goal

pub returns : goal.returns
returns c =
    let w = world_at c.args.top in
    IfOk-weaker c.nodes_of.result _ _ (λ nodes drained. record {
      world = all_in_world _ descendants_walk _ w _ c.filtered_descendants.result nodes.items c.filtered_descendants.ensures.begins drained;
      ids = gives_all _ descendants_walk _ w (common_filter w) (record { at = λ n r here answered. answers_there w (world_at n) c.args.free.now (id_at n) r here c.requires (search rules) }) _ c.filtered_descendants.result nodes.items c.filtered_descendants.ensures.filter c.filtered_descendants.ensures.begins drained;
    }) c.nodes_of.ensures
