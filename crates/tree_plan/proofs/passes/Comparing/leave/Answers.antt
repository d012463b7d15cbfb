use Rattle.std.proofs.Common.{◌+◌, refl, ap, ◌∙◌, arith}
use Rattle.tree_plan.specs.declared.passes.Comparing.{Comparing}
use Rattle.tree_plan.specs.Comparisons.{ids_before, ids_after}
use Rattle.tree_plan.proofs.Leaving.{lists_none, lists_both, leaves_upto}
use Rattle.tree_plan.proofs.passes.Comparing.leave.Goals as goal

pub loop-index-init : goal.loop-index-init
loop-index-init c = record { left = lists_none c.args.lists.now c.args.from c.args.self.now; rest = refl }

pub loop-index-preserved : goal.loop-index-preserved
loop-index-preserved c =
    let k = c.loop-index.index in
    let d : Comparing = c.leave_one.new.self in
    record {
      left = lists_both c.args.lists.now c.args.from k (k + 1) c.args.self.now c.loop-index.self d c.loop-index.invariant.left c.in_ok-leave_one.ensures.left;
      rest = c.leave_one.ensures.rest ∙ ap (λ (x : Comparing). let y : Comparing = record x { left = d.left } in y) c.loop-index.invariant.rest;
    }

pub returns-clause-left : goal.returns-clause-left
returns-clause-left c =
    let lists = c.args.lists.now in
    let a : Comparing = c.args.self.now in
    let b : Comparing = c.loop-index.self in
    leaves_upto lists.parent (ids_before lists) (ids_after lists) c.args.from c.loop-index.index c.args.to a.left b.left a.entered b.entered (λ k low high. omega (arith, c.loop-index-test.false, high)) c.loop-index.invariant.left
