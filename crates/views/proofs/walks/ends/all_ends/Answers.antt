use Rattle.views.specs.ShownWorlds.{world_of}
use Rattle.views.proofs.Walked.{none_from, none_until, all_there}
use Rattle.views.proofs.walks.ends.all_ends.Goals as goal

pub returns-in_default-clause-exact : goal.returns-in_default-clause-exact
returns-in_default-clause-exact g c = λ f follows. none_from (world_of c.args.state) c.know.ensures.formed f c.args.top.id (c.in_default.ensures.exact f follows)

pub returns-in_default-previous_shown-clause-exact : goal.returns-in_default-previous_shown-clause-exact
returns-in_default-previous_shown-clause-exact g c = λ f follows.
    none_until (world_of c.args.state) c.know.ensures.formed f c.args.top.id c.child_count-count.result c.child_count-count.ensures (c.in_default-previous_shown.ensures.exact f follows)

pub returns-clause-exact : goal.returns-clause-exact
returns-clause-exact g c = λ f follows.
    all_there (world_of c.args.state) c.know.ensures.formed f c.args.top.id c.child_count-count.result c.in-Some.front.member.id c.in-Some-previous_shown.back.member.id c.child_count-count.ensures
    (c.in-Some.ensures.exact f follows) (c.in-Some-previous_shown.ensures.exact f follows)
