use Rattle.std.proofs.Common.{arith}
use Rattle.std.specs.Prelude.{Some, None}
use Rattle.model.proofs.Walks.Beside.{work_before_child}
use Rattle.views.specs.ShownWorlds.{world_of}
use Rattle.views.specs.Spots.{place_at}
use Rattle.views.proofs.Walked.{apart}
use Rattle.views.proofs.Descended.{only_one_back, last_taken, before_place, parent_of_below}
use Rattle.views.proofs.walks.descents.without_last.Goals as goal

pub returns-then-is_same-clause-exact : goal.returns-then-is_same-clause-exact
returns-then-is_same-clause-exact g c = λ f follows spans.
    only_one_back (world_of c.args.state) c.know.ensures.formed f c.args.top c.args.ends.front.member.id c.args.ends.back.member.id spans (c.is_same.ensures.0 c.if-is_same.true)

pub previous_descendant-requires-clause-within : goal.previous_descendant-requires-clause-within
previous_descendant-requires-clause-within g c =
    parent_of_below (world_of c.args.state) c.know.ensures.formed c.args.top (place_at c.args.ends.back) c.args.ends.back.member.id c.requires.known.back.stands c.requires.known.back_below

pub returns-in-Some-clause-nearer : goal.returns-in-Some-clause-nearer
returns-in-Some-clause-nearer g c =
    omega (arith, c.in-Some.ensures.nearer, work_before_child (world_of c.args.state) c.know.ensures.formed c.args.top (place_at c.args.ends.back) c.args.ends.back.member.id c.requires.known.back.stands)

pub returns-in-Some-clause-exact : goal.returns-in-Some-clause-exact
returns-in-Some-clause-exact g c = λ f follows spans.
    let w = world_of c.args.state in
    last_taken w c.know.ensures.formed f c.args.top c.args.ends.front.member.id c.args.ends.back.member.id
    (apart c.is_same.result c.args.ends.front.member.id c.args.ends.back.member.id c.is_same.ensures c.if-is_same.false) (Some c.in-Some.back)
    (before_place w c.know.ensures.formed f c.args.top (place_at c.args.ends.back) c.args.ends.back.member.id c.requires.known.back.stands (Some c.in-Some.back) (c.in-Some.ensures.exact f follows)) spans

pub returns-in-None-clause-exact : goal.returns-in-None-clause-exact
returns-in-None-clause-exact g c = λ f follows spans.
    let w = world_of c.args.state in
    last_taken w c.know.ensures.formed f c.args.top c.args.ends.front.member.id c.args.ends.back.member.id
    (apart c.is_same.result c.args.ends.front.member.id c.args.ends.back.member.id c.is_same.ensures c.if-is_same.false) None
    (before_place w c.know.ensures.formed f c.args.top (place_at c.args.ends.back) c.args.ends.back.member.id c.requires.known.back.stands None (c.in-None.ensures.exact f follows)) spans
