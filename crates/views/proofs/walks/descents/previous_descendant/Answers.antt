use Rattle.std.proofs.Common.{◌≡◌, ◌-◌, [], ◌∷◌, ◌++◌, arith, sym, ◌∙◌, ap, true, false}
use Rattle.model.specs.Forest.{is_same as is_same_id}
use Rattle.model.specs.Covers.{is_included as is_included_answer, is_cut_off}
use Rattle.model.proofs.Walks.Beside.{tested_same, work_before_child, work_until_up}
use Rattle.model.proofs.Walks.Between.{below_is_within, child_is_other, parent_within}
use Rattle.views.specs.ShownWorlds.{world_of}
use Rattle.views.specs.Spots.{place_at}
use Rattle.views.specs.Descents.{earlier_in}
use Rattle.views.proofs.Following.{says_of, says_cut}
use Rattle.views.proofs.Descending.{earlier_skip, earlier_descend, earlier_end, earlier_parent, earlier_up}
use Rattle.views.proofs.Searching.{stands_as, less_before, less_inside, back_over, back_into, back_up}
use Rattle.views.proofs.walks.descents.previous_descendant.Goals as goal

pub loop-index-smaller-then-is_cut : goal.loop-index-smaller-then-is_cut
loop-index-smaller-then-is_cut g c = less_before (world_of c.args.state) c.know.ensures.formed c.args.top c.loop-index.parent.id c.loop-index.index (omega arith) c.in-Some.child.member.id c.in-Some.ensures.none

pub loop-index-preserved-then-is_cut : goal.loop-index-preserved-then-is_cut
loop-index-preserved-then-is_cut g c =
    let w = world_of c.args.state in
    back_over w c.know.ensures.formed c.args.top c.loop-index.invariant (omega arith) c.in-Some.child.member.id c.in-Some.ensures.none
    (λ f follows.
    let cut : is_cut_off (f c.in-Some.child.member.id) ≡ true = says_cut follows c.view.result _ _ c.view.ensures.world c.view.ensures.id c.is_cut.ensures ∙ c.if-is_cut.true in
    earlier_skip f w c.know.ensures.formed c.args.top (c.loop-index.parent.id, c.loop-index.index - 1) c.in-Some.child.member.id (sym c.in-Some.ensures.none) cut)

pub loop-index-smaller-else-is_cut : goal.loop-index-smaller-else-is_cut
loop-index-smaller-else-is_cut g c = less_inside (world_of c.args.state) c.know.ensures.formed c.args.top c.loop-index.parent.id c.loop-index.index (omega arith) c.in-Some.child.member.id c.in-Some.ensures.none c.child_count-index.result c.child_count-index.ensures

pub loop-index-preserved-else-is_cut : goal.loop-index-preserved-else-is_cut
loop-index-preserved-else-is_cut g c =
    let w = world_of c.args.state in
    back_into w c.know.ensures.formed c.args.top c.loop-index.invariant (omega arith) c.in-Some.child.member c.in-Some.ensures.there.0.member c.in-Some.ensures.none c.child_count-index.result c.child_count-index.ensures
    (λ f follows.
    let uncut : is_cut_off (f c.in-Some.child.member.id) ≡ false = says_cut follows c.view.result _ _ c.view.ensures.world c.view.ensures.id c.is_cut.ensures ∙ c.if-is_cut.false in
    earlier_descend f w c.know.ensures.formed c.args.top (c.loop-index.parent.id, c.loop-index.index - 1) c.in-Some.child.member.id (sym c.in-Some.ensures.none) uncut
    (child_is_other w c.know.ensures.formed c.args.top (c.loop-index.parent.id, c.loop-index.index - 1) c.in-Some.child.member.id (sym c.in-Some.ensures.none) c.loop-index.invariant.within))

pub returns-then-is_same-clause-exact : goal.returns-then-is_same-clause-exact
returns-then-is_same-clause-exact g c = λ f follows.
    let w = world_of c.args.state in
    let here = tested_same c.is_same.result c.args.top c.loop-index.parent.id c.is_same.ensures ∙ c.if-is_same.true in
    c.loop-index.invariant.exact f follows ∙ earlier_end f w c.know.ensures.formed c.args.top (c.loop-index.parent.id, c.loop-index.index) (omega arith) here

pub returns-then-is_included-clause-below : goal.returns-then-is_included-clause-below
returns-then-is_included-clause-below g c =
    let w = world_of c.args.state in
    let q = c.in-Some-spot.above in
    below_is_within w c.know.ensures.formed c.args.top (place_at q) q.member.id c.in-Some-spot.ensures.there.0.stands
    ∙ parent_within w c.know.ensures.formed c.args.top (place_at q) c.loop-index.parent.id (stands_as q c.loop-index.parent.id c.in-Some-spot.ensures.there) c.loop-index.invariant.within
    (tested_same c.is_same.result c.args.top c.loop-index.parent.id c.is_same.ensures ∙ c.if-is_same.false)

pub returns-then-is_included-clause-nearer : goal.returns-then-is_included-clause-nearer
returns-then-is_included-clause-nearer g c =
    let w = world_of c.args.state in
    let q = c.in-Some-spot.above in
    let other : is_same_id c.args.top c.loop-index.parent.id ≡ false = tested_same c.is_same.result c.args.top c.loop-index.parent.id c.is_same.ensures ∙ c.if-is_same.false in
    omega (
      arith,
      work_before_child w c.know.ensures.formed c.args.top (place_at q) q.member.id c.in-Some-spot.ensures.there.0.stands,
      work_until_up w c.know.ensures.formed c.args.top (c.loop-index.parent.id, c.loop-index.index) (place_at q) (omega arith) (stands_as q c.loop-index.parent.id c.in-Some-spot.ensures.there) other,
      c.loop-index.invariant.nearer,
    )

pub returns-then-is_included-clause-exact : goal.returns-then-is_included-clause-exact
returns-then-is_included-clause-exact g c = λ f follows.
    let w = world_of c.args.state in
    let other : is_same_id c.args.top c.loop-index.parent.id ≡ false = tested_same c.is_same.result c.args.top c.loop-index.parent.id c.is_same.ensures ∙ c.if-is_same.false in
    let said : f c.loop-index.parent.id ≡ c.answer.result = says_of follows c.view-else-index-gt0.result _ _ c.view-else-index-gt0.ensures.world (c.view-else-index-gt0.ensures.id ∙ c.in-Some-spot.ensures.there.1) c.answer.ensures in
    let kept : is_included_answer (f c.loop-index.parent.id) ≡ true = ap is_included_answer said ∙ sym c.is_included.ensures ∙ c.if-is_included.true in
    c.loop-index.invariant.exact f follows
    ∙ earlier_parent f w c.know.ensures.formed c.args.top (c.loop-index.parent.id, c.loop-index.index) (omega arith) other kept
    ∙ ap (λ i. earlier_in f w c.args.top i ++ i ∷ []) (sym c.in-Some-spot.ensures.there.1)

pub loop-index-smaller : goal.loop-index-smaller
loop-index-smaller g c =
    work_until_up (world_of c.args.state) c.know.ensures.formed c.args.top (c.loop-index.parent.id, c.loop-index.index) (place_at c.in-Some-spot.above) (omega arith)
    (stands_as c.in-Some-spot.above c.loop-index.parent.id c.in-Some-spot.ensures.there) (tested_same c.is_same.result c.args.top c.loop-index.parent.id c.is_same.ensures ∙ c.if-is_same.false)

pub loop-index-preserved : goal.loop-index-preserved
loop-index-preserved g c =
    let w = world_of c.args.state in
    let other : is_same_id c.args.top c.loop-index.parent.id ≡ false = tested_same c.is_same.result c.args.top c.loop-index.parent.id c.is_same.ensures ∙ c.if-is_same.false in
    back_up w c.know.ensures.formed c.args.top c.loop-index.invariant (omega arith) c.in-Some-spot.above c.in-Some-spot.ensures.there other
    (λ f follows.
    let said : f c.loop-index.parent.id ≡ c.answer.result = says_of follows c.view-else-index-gt0.result _ _ c.view-else-index-gt0.ensures.world (c.view-else-index-gt0.ensures.id ∙ c.in-Some-spot.ensures.there.1) c.answer.ensures in
    let out : is_included_answer (f c.loop-index.parent.id) ≡ false = ap is_included_answer said ∙ sym c.is_included.ensures ∙ c.if-is_included.false in
    earlier_up f w c.know.ensures.formed c.args.top (c.loop-index.parent.id, c.loop-index.index) (place_at c.in-Some-spot.above) (omega arith) (stands_as c.in-Some-spot.above c.loop-index.parent.id c.in-Some-spot.ensures.there) other out)
