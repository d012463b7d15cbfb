use Rattle.std.specs.Prelude.{Some, None}
use Rattle.model.proofs.Walks.Between.{last_one}
use Rattle.views.specs.ShownWorlds.{world_of}
use Rattle.views.proofs.Walked.{apart, taken}
use Rattle.views.proofs.walks.ends.without_front.Goals as goal

pub returns-then-is_same-clause-exact : goal.returns-then-is_same-clause-exact
returns-then-is_same-clause-exact g c = λ f follows spans.
    last_one (world_of c.args.state) c.know.ensures.formed f c.args.top c.args.ends.front.member.id c.args.ends.back.member.id spans (c.is_same.ensures.0 c.if-is_same.true)

pub returns-in-Some-clause-exact : goal.returns-in-Some-clause-exact
returns-in-Some-clause-exact g c = λ f follows spans.
    taken (world_of c.args.state) c.know.ensures.formed f c.args.top c.args.ends.front.member.id c.args.ends.back.member.id (Some c.in-Some.front.member.id)
    (apart c.is_same.result c.args.ends.front.member.id c.args.ends.back.member.id c.is_same.ensures c.if-is_same.false) (c.in-Some.ensures.exact f follows) spans

pub returns-in-None-clause-exact : goal.returns-in-None-clause-exact
returns-in-None-clause-exact g c = λ f follows spans.
    taken (world_of c.args.state) c.know.ensures.formed f c.args.top c.args.ends.front.member.id c.args.ends.back.member.id None
    (apart c.is_same.result c.args.ends.front.member.id c.args.ends.back.member.id c.is_same.ensures c.if-is_same.false) (c.in-None.ensures.exact f follows) spans
