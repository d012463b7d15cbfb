use Rattle.std.proofs.Common.{◌≡◌, ◌≤◌, length, arith, sym, ◌∙◌, false}
use Rattle.model.specs.declared.filters.FilterResult.TheVariants.{Include}
use Rattle.model.specs.World.{Place, children}
use Rattle.model.specs.Forest.{is_same as is_same_id}
use Rattle.model.proofs.Walks.Beside.{tested_same, left_include, left_skip, left_descend, left_up, left_end, work_from_step, work_from_descend}
use Rattle.model.proofs.Walks.Between.{child_is_other}
use Rattle.views.specs.ShownWorlds.{world_of}
use Rattle.views.specs.Spots.{place_at}
use Rattle.views.proofs.Children.{past_last}
use Rattle.views.proofs.Following.{says_of}
use Rattle.views.proofs.Searching.{stands_as, child_below, child_nearer, goes_over, goes_into, goes_up}
use Rattle.views.proofs.walks.searches.next_shown.Goals as goal

pub returns-in-Include-clause-below : goal.returns-in-Include-clause-below
returns-in-Include-clause-below g c = child_below (world_of c.args.state) c.know.ensures.formed c.args.top c.loop-child.invariant c.in-Some.child.member.id c.in-Some.ensures.none

pub returns-in-Include-clause-nearer : goal.returns-in-Include-clause-nearer
returns-in-Include-clause-nearer g c = child_nearer (world_of c.args.state) c.know.ensures.formed c.args.top c.loop-child.invariant c.in-Some.child.member.id c.in-Some.ensures.none

pub returns-in-Include-clause-exact : goal.returns-in-Include-clause-exact
returns-in-Include-clause-exact g c = λ f follows.
    let kept : f c.in-Some.child.member.id ≡ Include = says_of follows c.view.result _ _ c.view.ensures.world c.view.ensures.id c.in-Include.ensures in
    c.loop-child.invariant.exact f follows
    ∙ left_include (world_of c.args.state) c.know.ensures.formed f (is_same_id c.args.top) (c.loop-child.parent.id, c.loop-child.index) c.in-Some.child.member.id (sym c.in-Some.ensures.none) kept

pub loop-child-smaller-in-ExcludeNode : goal.loop-child-smaller-in-ExcludeNode
loop-child-smaller-in-ExcludeNode g c =
    work_from_descend (world_of c.args.state) c.know.ensures.formed c.args.top (c.loop-child.parent.id, c.loop-child.index) c.in-Some.child.member.id (sym c.in-Some.ensures.none)

pub loop-child-preserved-in-ExcludeNode : goal.loop-child-preserved-in-ExcludeNode
loop-child-preserved-in-ExcludeNode g c =
    let w = world_of c.args.state in
    let place : Place = (c.loop-child.parent.id, c.loop-child.index) in
    goes_into w c.know.ensures.formed c.args.top c.loop-child.invariant c.in-Some.child.member c.in-Some.ensures.there.0.member c.in-Some.ensures.none
    (λ f follows. left_descend w c.know.ensures.formed f (is_same_id c.args.top) place c.in-Some.child.member.id (sym c.in-Some.ensures.none)
    (says_of follows c.view.result _ _ c.view.ensures.world c.view.ensures.id c.in-ExcludeNode.ensures)
    (child_is_other w c.know.ensures.formed c.args.top place c.in-Some.child.member.id (sym c.in-Some.ensures.none) c.loop-child.invariant.within))

pub overflow_add-index : goal.overflow_add-index
overflow_add-index g c = omega (arith, c.in-Some.ensures.fits)

pub loop-child-smaller-in-ExcludeSubtree : goal.loop-child-smaller-in-ExcludeSubtree
loop-child-smaller-in-ExcludeSubtree g c =
    omega (arith, work_from_step (world_of c.args.state) c.know.ensures.formed c.args.top (c.loop-child.parent.id, c.loop-child.index) c.in-Some.child.member.id (sym c.in-Some.ensures.none))

pub loop-child-preserved-in-ExcludeSubtree : goal.loop-child-preserved-in-ExcludeSubtree
loop-child-preserved-in-ExcludeSubtree g c =
    let w = world_of c.args.state in
    goes_over w c.know.ensures.formed c.args.top c.loop-child.invariant c.in-Some.child.member.id c.in-Some.ensures.none
    (λ f follows. left_skip w c.know.ensures.formed f (is_same_id c.args.top) (c.loop-child.parent.id, c.loop-child.index) c.in-Some.child.member.id (sym c.in-Some.ensures.none)
    (says_of follows c.view.result _ _ c.view.ensures.world c.view.ensures.id c.in-ExcludeSubtree.ensures))

pub returns-then-is_same-clause-exact : goal.returns-then-is_same-clause-exact
returns-then-is_same-clause-exact g c = λ f follows.
    let w = world_of c.args.state in
    let here = tested_same c.is_same.result c.args.top c.loop-child.parent.id c.is_same.ensures ∙ c.if-is_same.true in
    c.loop-child.invariant.exact f follows
    ∙ left_end w c.know.ensures.formed f (is_same_id c.args.top) (c.loop-child.parent.id, c.loop-child.index) (past_last w (c.loop-child.parent.id, c.loop-child.index) c.in-None.ensures.none) here

pub loop-child-preserved : goal.loop-child-preserved
loop-child-preserved g c =
    let w = world_of c.args.state in
    let other : is_same_id c.args.top c.loop-child.parent.id ≡ false = tested_same c.is_same.result c.args.top c.loop-child.parent.id c.is_same.ensures ∙ c.if-is_same.false in
    let past : length (children w c.loop-child.parent.id) ≤ c.loop-child.index = past_last w (c.loop-child.parent.id, c.loop-child.index) c.in-None.ensures.none in
    goes_up w c.know.ensures.formed c.args.top c.loop-child.invariant past c.in-Some-spot.above c.in-Some-spot.ensures.there other
    (λ f follows. left_up w c.know.ensures.formed f (is_same_id c.args.top) (c.loop-child.parent.id, c.loop-child.index) (place_at c.in-Some-spot.above) past
    (stands_as c.in-Some-spot.above c.loop-child.parent.id c.in-Some-spot.ensures.there) other)
