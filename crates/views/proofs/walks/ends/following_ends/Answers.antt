use Rattle.std.proofs.Common.{◌≡◌, [], ◌∷◌, subst}
use Rattle.model.specs.Beside.{after_in}
use Rattle.views.specs.ShownWorlds.{world_of}
use Rattle.views.proofs.Walked.{unplaced, uncovered, none_follow, none_at_all, follow_there}
use Rattle.views.proofs.walks.ends.following_ends.Goals as goal

pub returns-in_default-clause-exact : goal.returns-in_default-clause-exact
returns-in_default-clause-exact g c = λ f follows. (unplaced (world_of c.args.state) c.know.ensures.formed f c.args.node.id c.in_default.ensures.place).0

pub returns-in_default-cover-clause-exact : goal.returns-in_default-cover-clause-exact
returns-in_default-cover-clause-exact g c = λ f follows. (uncovered (world_of c.args.state) c.know.ensures.formed f c.args.node.id (c.in_default-cover.ensures.exact f follows)).0

pub returns-in_default-following-clause-exact : goal.returns-in_default-following-clause-exact
returns-in_default-following-clause-exact g c = λ f follows.
    let w = world_of c.args.state in
    none_follow w c.know.ensures.formed f c.in-Some-cover.top.id c.args.node.id (c.in-Some-cover.ensures.exact f follows)
    (subst (λ i. after_in f w c.in-Some-cover.top.id i ≡ []) c.in-Some.ensures.there.1 (c.in_default-following.ensures.exact f follows))

pub returns-in_default-previous_shown-clause-exact : goal.returns-in_default-previous_shown-clause-exact
returns-in_default-previous_shown-clause-exact g c = λ f follows.
    none_at_all (world_of c.args.state) c.know.ensures.formed f c.in-Some-cover.top.id c.args.node.id c.child_count-count.result (c.in-Some-cover.ensures.exact f follows)
    c.child_count-count.ensures (c.in_default-previous_shown.ensures.exact f follows)

pub returns-clause-exact : goal.returns-clause-exact
returns-clause-exact g c = λ f follows.
    let w = world_of c.args.state in
    let front = c.in-Some-following.front.member.id in
    follow_there w c.know.ensures.formed f c.in-Some-cover.top.id c.args.node.id c.child_count-count.result front c.in-Some-previous_shown.back.member.id
    (c.in-Some-cover.ensures.exact f follows) c.child_count-count.ensures
    (subst (λ i. after_in f w c.in-Some-cover.top.id i ≡ front ∷ after_in f w c.in-Some-cover.top.id front) c.in-Some.ensures.there.1 (c.in-Some-following.ensures.exact f follows))
    (c.in-Some-previous_shown.ensures.exact f follows)
