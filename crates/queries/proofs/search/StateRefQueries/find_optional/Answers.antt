use Rattle.views.specs.ShownWorlds.{world_of}
use Rattle.queries.specs.Found.{AreFound, searched_in}
use Rattle.queries.proofs.Outcomes.{optional_of}
use Rattle.queries.proofs.search.StateRefQueries.find_optional.Goals as goal

pub returns : goal.returns
returns g c =
    optional_of c.args.by.now.wanted
    (AreFound c.args.by.now.wanted (g.F.Filter.answers c.args.by.now.filter) (g.C.Condition.answers c.args.by.now.condition) (world_of c.args.self.now) (λ f. searched_in f (world_of c.args.self.now)))
    c.deref.result.now c.in_ok-found.found.items c.at_most_one.result c.deref.ensures.value c.in_ok-found.ensures c.at_most_one.ensures
