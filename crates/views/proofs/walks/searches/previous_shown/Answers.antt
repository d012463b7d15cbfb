use Rattle.std.proofs.Common.{◌≡◌, ◌-◌, arith, sym, ◌∙◌, false}
use Rattle.model.specs.declared.filters.FilterResult.TheVariants.{Include}
use Rattle.model.specs.World.{Place}
use Rattle.model.specs.Forest.{is_same as is_same_id}
use Rattle.model.proofs.Walks.Beside.{tested_same, prior_include, prior_skip, prior_descend, prior_up, work_until_up}
use Rattle.model.proofs.Walks.Between.{child_is_other}
use Rattle.views.specs.ShownWorlds.{world_of}
use Rattle.views.specs.Spots.{place_at}
use Rattle.views.proofs.Following.{says_of}
use Rattle.views.proofs.Searching.{stands_as, less_before, less_inside, back_below, back_nearer, back_shown, back_over, back_into, back_up}
use Rattle.views.proofs.walks.searches.previous_shown.Goals as goal

pub returns-in-Include-clause-below : goal.returns-in-Include-clause-below
returns-in-Include-clause-below g c =
    back_below (world_of c.args.state) c.know.ensures.formed c.args.top c.loop-index.invariant (omega arith) c.in-Some.child.member.id c.in-Some.ensures.none

pub returns-in-Include-clause-nearer : goal.returns-in-Include-clause-nearer
returns-in-Include-clause-nearer g c =
    back_nearer (world_of c.args.state) c.know.ensures.formed c.args.top c.loop-index.invariant (omega arith) c.in-Some.child.member.id c.in-Some.ensures.none

pub returns-in-Include-clause-exact : goal.returns-in-Include-clause-exact
returns-in-Include-clause-exact g c = λ f follows.
    let w = world_of c.args.state in
    let kept : f c.in-Some.child.member.id ≡ Include = says_of follows c.view.result _ _ c.view.ensures.world c.view.ensures.id c.in-Include.ensures in
    back_shown w c.know.ensures.formed c.args.top c.loop-index.invariant (omega arith) f follows
    ∙ prior_include w c.know.ensures.formed f (is_same_id c.args.top) (c.loop-index.parent.id, c.loop-index.index - 1) c.in-Some.child.member.id (sym c.in-Some.ensures.none) kept

pub loop-index-smaller-in-ExcludeNode : goal.loop-index-smaller-in-ExcludeNode
loop-index-smaller-in-ExcludeNode g c =
    less_inside (world_of c.args.state) c.know.ensures.formed c.args.top c.loop-index.parent.id c.loop-index.index (omega arith) c.in-Some.child.member.id c.in-Some.ensures.none c.child_count-index.result c.child_count-index.ensures

pub loop-index-preserved-in-ExcludeNode : goal.loop-index-preserved-in-ExcludeNode
loop-index-preserved-in-ExcludeNode g c =
    let w = world_of c.args.state in
    let place : Place = (c.loop-index.parent.id, c.loop-index.index - 1) in
    back_into w c.know.ensures.formed c.args.top c.loop-index.invariant (omega arith) c.in-Some.child.member c.in-Some.ensures.there.0.member c.in-Some.ensures.none c.child_count-index.result c.child_count-index.ensures
    (λ f follows. prior_descend w c.know.ensures.formed f (is_same_id c.args.top) place c.in-Some.child.member.id (sym c.in-Some.ensures.none)
    (says_of follows c.view.result _ _ c.view.ensures.world c.view.ensures.id c.in-ExcludeNode.ensures)
    (child_is_other w c.know.ensures.formed c.args.top place c.in-Some.child.member.id (sym c.in-Some.ensures.none) c.loop-index.invariant.within))

pub loop-index-smaller-in-ExcludeSubtree : goal.loop-index-smaller-in-ExcludeSubtree
loop-index-smaller-in-ExcludeSubtree g c =
    less_before (world_of c.args.state) c.know.ensures.formed c.args.top c.loop-index.parent.id c.loop-index.index (omega arith) c.in-Some.child.member.id c.in-Some.ensures.none

pub loop-index-preserved-in-ExcludeSubtree : goal.loop-index-preserved-in-ExcludeSubtree
loop-index-preserved-in-ExcludeSubtree g c =
    let w = world_of c.args.state in
    back_over w c.know.ensures.formed c.args.top c.loop-index.invariant (omega arith) c.in-Some.child.member.id c.in-Some.ensures.none
    (λ f follows. prior_skip w c.know.ensures.formed f (is_same_id c.args.top) (c.loop-index.parent.id, c.loop-index.index - 1) c.in-Some.child.member.id (sym c.in-Some.ensures.none)
    (says_of follows c.view.result _ _ c.view.ensures.world c.view.ensures.id c.in-ExcludeSubtree.ensures))

pub loop-index-smaller : goal.loop-index-smaller
loop-index-smaller g c =
    let other : is_same_id c.args.top c.loop-index.parent.id ≡ false = tested_same c.is_same.result c.args.top c.loop-index.parent.id c.is_same.ensures ∙ c.if-is_same.false in
    work_until_up (world_of c.args.state) c.know.ensures.formed c.args.top (c.loop-index.parent.id, c.loop-index.index) (place_at c.in-Some-spot.above) (omega arith)
    (stands_as c.in-Some-spot.above c.loop-index.parent.id c.in-Some-spot.ensures.there) other

pub loop-index-preserved : goal.loop-index-preserved
loop-index-preserved g c =
    let w = world_of c.args.state in
    let other : is_same_id c.args.top c.loop-index.parent.id ≡ false = tested_same c.is_same.result c.args.top c.loop-index.parent.id c.is_same.ensures ∙ c.if-is_same.false in
    back_up w c.know.ensures.formed c.args.top c.loop-index.invariant (omega arith) c.in-Some-spot.above c.in-Some-spot.ensures.there other
    (λ f follows. prior_up w c.know.ensures.formed f (is_same_id c.args.top) (c.loop-index.parent.id, c.loop-index.index) (place_at c.in-Some-spot.above) (omega arith)
    (stands_as c.in-Some-spot.above c.loop-index.parent.id c.in-Some-spot.ensures.there) other)
