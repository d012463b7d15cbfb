use Rattle.std.proofs.Common.{◌≡◌, [], ◌∷◌, ◌++◌, subst}
use Rattle.model.specs.Beside.{before_in}
use Rattle.views.specs.ShownWorlds.{world_of}
use Rattle.views.proofs.Walked.{unplaced, uncovered, none_precede, none_first, precede_there}
use Rattle.views.proofs.walks.ends.preceding_ends.Goals as goal

pub returns-in_default-clause-exact : goal.returns-in_default-clause-exact
returns-in_default-clause-exact g c = λ f follows. (unplaced (world_of c.args.state) c.know.ensures.formed f c.args.node.id c.in_default.ensures.place).1

pub returns-in_default-cover-clause-exact : goal.returns-in_default-cover-clause-exact
returns-in_default-cover-clause-exact g c = λ f follows. (uncovered (world_of c.args.state) c.know.ensures.formed f c.args.node.id (c.in_default-cover.ensures.exact f follows)).1

pub returns-in_default-preceding-clause-exact : goal.returns-in_default-preceding-clause-exact
returns-in_default-preceding-clause-exact g c = λ f follows.
    let w = world_of c.args.state in
    none_precede w c.know.ensures.formed f c.in-Some-cover.top.id c.args.node.id (c.in-Some-cover.ensures.exact f follows)
    (subst (λ i. before_in f w c.in-Some-cover.top.id i ≡ []) c.in-Some.ensures.there.1 (c.in_default-preceding.ensures.exact f follows))

pub returns-in_default-next_shown-clause-exact : goal.returns-in_default-next_shown-clause-exact
returns-in_default-next_shown-clause-exact g c = λ f follows.
    none_first (world_of c.args.state) c.know.ensures.formed f c.in-Some-cover.top.id c.args.node.id (c.in-Some-cover.ensures.exact f follows) (c.in_default-next_shown.ensures.exact f follows)

pub returns-clause-exact : goal.returns-clause-exact
returns-clause-exact g c = λ f follows.
    let w = world_of c.args.state in
    let back = c.in-Some-preceding.back.member.id in
    precede_there w c.know.ensures.formed f c.in-Some-cover.top.id c.args.node.id c.in-Some-next_shown.front.member.id back
    (c.in-Some-cover.ensures.exact f follows) (c.in-Some-next_shown.ensures.exact f follows)
    (subst (λ i. before_in f w c.in-Some-cover.top.id i ≡ before_in f w c.in-Some-cover.top.id back ++ back ∷ []) c.in-Some.ensures.there.1 (c.in-Some-preceding.ensures.exact f follows))
