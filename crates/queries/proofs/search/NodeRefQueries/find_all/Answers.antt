use Rattle.views.specs.Nodes.{world_at, id_at}
use Rattle.queries.specs.Found.{searched_below}
use Rattle.queries.proofs.Fitting.{found_among}
use Rattle.queries.proofs.search.NodeRefQueries.find_all.Goals as goal

pub returns : goal.returns
returns g c =
    found_among c.args.by.now.wanted (g.F.Filter.answers c.args.by.now.filter) (g.C.Condition.answers c.args.by.now.condition)
    (world_at c.args.self.now) (λ f. searched_below f (world_at c.args.self.now) (id_at c.args.self.now))
    c.deref.result.now c.in_ok-searched.searched.items c.fitting.result c.deref.ensures.value c.in_ok-searched.ensures c.fitting.ensures
