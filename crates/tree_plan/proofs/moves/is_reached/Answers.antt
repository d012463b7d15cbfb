use Rattle.std.proofs.Common.{rules, ◌≡◌, ◌≢◌, ◌∙◌, refl, sym, subst, arith}
use Rattle.std.specs.Prelude.{IfSome}
use Rattle.model.specs.World.{World}
use Rattle.tree_plan.specs.Moves.{IsAbove, LeadsUp, ends, goes}
use Rattle.tree_plan.proofs.moves.is_reached.Goals as goal

pub loop-step-init : goal.loop-step-init
loop-step-init g c = record { world = refl; count = omega arith; least = omega arith; leads = λ up. up }

pub loop-step-preserved : goal.loop-step-preserved
loop-step-preserved g c =
    let w : World = g.L.LookUps.world c.args.look_ups.now in
    let v = c.args.moved.now in
    let i = c.loop-step.invariant in
    let other : c.loop-step.id ≢ v.root = search rules in
    let found : IsAbove (g.L.LookUps.world c.loop-step.look_ups) v.rows.now c.loop-step.id c.in-Some.parent = subst (λ x. IfSome x (IsAbove (g.L.LookUps.world c.loop-step.look_ups) v.rows.now c.loop-step.id)) c.in-Some.is c.parent_after.ensures.above in
    let above : IsAbove w v.rows.now c.loop-step.id c.in-Some.parent = subst (λ (x : World). IsAbove x v.rows.now c.loop-step.id c.in-Some.parent) i.world found in
    record {
      world = c.parent_after.ensures.world ∙ i.world;
      count = omega (arith, c.parent_after.ensures.count, i.count);
      least = omega (arith, c.parent_after.ensures.least, i.least);
      leads = λ up. i.leads (goes c.loop-step.id c.in-Some.parent other above up);
    }

pub returns-then-eq-clause-reached : goal.returns-then-eq-clause-reached
returns-then-eq-clause-reached g c =
    let w : World = g.L.LookUps.world c.args.look_ups.now in
    let v = c.args.moved.now in
    let same : c.loop-step.id ≡ v.root = search rules in
    λ _. c.loop-step.invariant.leads (subst (LeadsUp w v.rows.now v.root) (sym same) ends)
