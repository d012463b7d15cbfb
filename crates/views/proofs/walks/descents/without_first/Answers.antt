use Rattle.std.specs.Prelude.{Some, None}
use Rattle.views.specs.ShownWorlds.{world_of}
use Rattle.views.proofs.Walked.{apart}
use Rattle.views.proofs.Descended.{only_one, first_taken}
use Rattle.views.proofs.walks.descents.without_first.Goals as goal

pub returns-then-is_same-clause-exact : goal.returns-then-is_same-clause-exact
returns-then-is_same-clause-exact g c = λ f follows spans.
    only_one (world_of c.args.state) c.know.ensures.formed f c.args.top c.args.ends.front.member.id c.args.ends.back.member.id spans (c.is_same.ensures.0 c.if-is_same.true)

pub returns-in-Some-clause-exact : goal.returns-in-Some-clause-exact
returns-in-Some-clause-exact g c = λ f follows spans.
    first_taken (world_of c.args.state) c.know.ensures.formed f c.args.top c.args.ends.front.member.id c.args.ends.back.member.id
    (apart c.is_same.result c.args.ends.front.member.id c.args.ends.back.member.id c.is_same.ensures c.if-is_same.false) (Some c.in-Some.front) (c.in-Some.ensures.exact f follows) spans

pub returns-in-None-clause-exact : goal.returns-in-None-clause-exact
returns-in-None-clause-exact g c = λ f follows spans.
    first_taken (world_of c.args.state) c.know.ensures.formed f c.args.top c.args.ends.front.member.id c.args.ends.back.member.id
    (apart c.is_same.result c.args.ends.front.member.id c.args.ends.back.member.id c.is_same.ensures c.if-is_same.false) None (c.in-None.ensures.exact f follows) spans
