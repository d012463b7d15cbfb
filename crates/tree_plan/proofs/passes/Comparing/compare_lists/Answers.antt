use Rattle.std.proofs.Common.{◌≡◌, ◌≤◌, length, refl, sym, ap, subst, ◌∙◌, arith}
use Rattle.std.proofs.lemmas.List.{length-map}
use Rattle.std.proofs.lemmas.Result.{on_ok_weaker}
use Rattle.model.specs.World.{in_tree}
use Rattle.tree_plan.specs.declared.passes.Comparing.{Comparing}
use Rattle.tree_plan.specs.Comparisons.{Arrivals, Leaves, spots_of, Gathers, OnlyIn, OnlyInBefore, ids_before, ids_after}
use Rattle.tree_plan.proofs.Gathering.{gathers_none, gathers_next, gathers_all, none_at_zero}
use Rattle.tree_plan.proofs.Leaving.{lists_none, lists_both}
use Rattle.tree_plan.proofs.passes.Comparing.compare_lists.Goals as goal

pub loop-index-init : goal.loop-index-init
loop-index-init c =
    let lists = c.args.lists.now in
    let a : Comparing = c.args.self.now in
    let same : c.make_room.new.self ≡ a = c.make_room.ensures.same in
    record {
      left = subst (λ (x : Comparing). Leaves lists.parent (ids_before lists) (ids_after lists) 0 0 a.left x.left a.entered x.entered) (sym same) (lists_none lists 0 a);
      entered = subst (λ (x : Comparing). Gathers (OnlyInBefore 0 lists.parent (ids_after lists) (ids_before lists)) (spots_of a.entered) (spots_of x.entered)) (sym same)
          (gathers_none (OnlyInBefore 0 lists.parent (ids_after lists) (ids_before lists)) (spots_of a.entered) (none_at_zero lists.parent (ids_after lists) (ids_before lists)));
      rest = subst (λ (x : Comparing). x ≡ (let y : Comparing = record a { left = x.left; entered = x.entered } in y)) (sym same) refl;
    }

pub loop-index-preserved : goal.loop-index-preserved
loop-index-preserved c =
    let lists = c.args.lists.now in
    let d : Comparing = c.compare_child.new.self in
    let step = c.in_ok-next.ensures.ok in
    record {
      left = lists_both lists 0 c.loop-index.next _ c.args.self.now c.loop-index.self d c.loop-index.invariant.left step.left;
      entered = gathers_next lists.parent (ids_after lists) (ids_before lists) c.loop-index.index _ _ _ c.loop-index.invariant.entered step.entered;
      rest = c.compare_child.ensures.rest ∙ ap (λ (x : Comparing). let y : Comparing = record x { left = d.left; entered = d.entered } in y) c.loop-index.invariant.rest;
    }

pub returns-clause-left : goal.returns-clause-left
returns-clause-left c =
    let lists = c.args.lists.now in
    on_ok_weaker c.leave.result (λ step. lists_both lists 0 c.loop-index.next (length lists.before.now) c.args.self.now c.loop-index.self c.leave.new.self c.loop-index.invariant.left step) c.leave.ensures.left

pub returns-clause-entered : goal.returns-clause-entered
returns-clause-entered c =
    let lists = c.args.lists.now in
    let d : Comparing = c.leave.new.self in
    let fits : length (ids_after lists) ≤ c.loop-index.index = omega (arith, length-map lists.after.now (in_tree lists.parent.tree)) in
    let same : d.entered ≡ c.loop-index.self.entered = ap (λ (x : Comparing). x.entered) c.leave.ensures.rest in
    let all = gathers_all lists.parent (ids_after lists) (ids_before lists) c.loop-index.index fits _ _ c.loop-index.invariant.entered in
    on_ok_weaker c.leave.result (λ step. subst (λ (es : Arrivals). Gathers (OnlyIn lists.parent (ids_after lists) (ids_before lists)) (spots_of c.args.self.now.entered) (spots_of es)) (sym same) all) c.leave.ensures.left

pub returns-clause-rest : goal.returns-clause-rest
returns-clause-rest c =
    let b : Comparing = c.loop-index.self in
    let d : Comparing = c.leave.new.self in
    let same : d.entered ≡ b.entered = ap (λ (x : Comparing). x.entered) c.leave.ensures.rest in
    c.leave.ensures.rest
    ∙ ap (λ (es : Arrivals). let y : Comparing = record b { left = d.left; entered = es } in y) (sym same)
    ∙ ap (λ (x : Comparing). let y : Comparing = record x { left = d.left; entered = d.entered } in y) c.loop-index.invariant.rest
