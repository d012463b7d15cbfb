use Rattle.views.specs.ShownWorlds.{world_of}
use Rattle.queries.specs.Found.{searched_in}
use Rattle.queries.proofs.Fitting.{found_one}
use Rattle.queries.proofs.search.StateRefQueries.find_one.Goals as goal

pub returns : goal.returns
returns g c =
    found_one c.args.by.now.wanted (g.F.Filter.answers c.args.by.now.filter) (g.C.Condition.answers c.args.by.now.condition)
    (world_of c.args.self.now) (λ f. searched_in f (world_of c.args.self.now))
    c.deref.result.now c.in_ok-searched.searched.items c.only_one.result c.deref.ensures.value c.in_ok-searched.ensures c.only_one.ensures
