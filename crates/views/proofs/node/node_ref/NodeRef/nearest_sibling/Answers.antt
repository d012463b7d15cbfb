use Rattle.std.proofs.Common.{◌∙◌, ap}
use Rattle.std.specs.Prelude.{slice_get}
use Rattle.model.specs.Covers.{cover}
use Rattle.views.specs.Nodes.{id_at}
use Rattle.views.specs.ShownWorlds.{world_of}
use Rattle.views.specs.Sides.{siblings_beside}
use Rattle.views.proofs.Walked.{none_unplaced, none_uncovered, next_is_nearest, previous_is_nearest}
use Rattle.views.proofs.node.node_ref.NodeRef.nearest_sibling.Goals as goal

pub returns-in_default-clause-exact : goal.returns-in_default-clause-exact
returns-in_default-clause-exact g c = λ f follows.
    none_unplaced (world_of c.args.self.state) c.know.ensures.formed f c.args.before c.member-member.result.id c.in_default.ensures.place
    ∙ ap (λ i. slice_get (siblings_beside c.args.before f (world_of c.args.self.state) i) 0) c.member-member.ensures.is

pub returns-in_default-cover-clause-exact : goal.returns-in_default-cover-clause-exact
returns-in_default-cover-clause-exact g c = λ f follows.
    none_uncovered (world_of c.args.self.state) c.know.ensures.formed f c.args.before (id_at c.args.self)
    (c.in_default-cover.ensures.exact f follows ∙ ap (cover f (world_of c.args.self.state)) c.member-member.ensures.is)

pub returns-then-before-clause-exact : goal.returns-then-before-clause-exact
returns-then-before-clause-exact g c = λ f follows.
    c.viewed.ensures.id
    ∙ previous_is_nearest (world_of c.args.self.state) c.know.ensures.formed f c.args.before (id_at c.args.self) c.in-Some-cover.top.id c.in-Some.spot.member.id
    (c.in-Some-cover.ensures.exact f follows ∙ ap (cover f (world_of c.args.self.state)) c.member-member.ensures.is) (c.in-Some.ensures.there.1 ∙ c.member-member.ensures.is) c.preceding.result c.if-before.true (c.preceding.ensures.exact f follows)

pub returns-clause-exact : goal.returns-clause-exact
returns-clause-exact g c = λ f follows.
    c.viewed-2.ensures.id
    ∙ next_is_nearest (world_of c.args.self.state) c.know.ensures.formed f c.args.before (id_at c.args.self) c.in-Some-cover.top.id c.in-Some.spot.member.id
    (c.in-Some-cover.ensures.exact f follows ∙ ap (cover f (world_of c.args.self.state)) c.member-member.ensures.is) (c.in-Some.ensures.there.1 ∙ c.member-member.ensures.is) c.following.result c.if-before.false (c.following.ensures.exact f follows)
