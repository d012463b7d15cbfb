use Rattle.views.specs.ShownWorlds.{world_of}
use Rattle.views.proofs.Descended.{nothing_inside, nothing_before, all_are_between}
use Rattle.views.proofs.walks.descents.all_inside.Goals as goal

pub returns-in_default-clause-exact : goal.returns-in_default-clause-exact
returns-in_default-clause-exact g c = λ f follows. nothing_inside (world_of c.args.state) c.know.ensures.formed f c.args.top.id (c.in_default.ensures.exact f follows)

pub returns-in_default-previous_descendant-clause-exact : goal.returns-in_default-previous_descendant-clause-exact
returns-in_default-previous_descendant-clause-exact g c = λ f follows.
    nothing_before (world_of c.args.state) c.know.ensures.formed f c.args.top.id c.child_count-count.result c.child_count-count.ensures (c.in_default-previous_descendant.ensures.exact f follows)

pub returns-clause-exact : goal.returns-clause-exact
returns-clause-exact g c = λ f follows.
    all_are_between (world_of c.args.state) c.know.ensures.formed f c.args.top.id c.child_count-count.result c.in-Some.front.member.id c.in-Some-previous_descendant.back.member.id c.child_count-count.ensures
    (c.in-Some.ensures.exact f follows) (c.in-Some-previous_descendant.ensures.exact f follows)
