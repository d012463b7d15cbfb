use Rattle.std.proofs.Common.{◌≡◌, Contains, get_or, length, refl, sym, ap, subst, arith}
use Rattle.std.proofs.lemmas.List.Elements.{Contains-get_or}
use Rattle.model.specs.declared.FullNodeId.{FullNodeId}
use Rattle.model.specs.World.{Place}
use Rattle.tree_changes.specs.Refusals.{IsRefusal}
use Rattle.tree_plan.specs.Refusing.{IsKept, IsListedStill}
use Rattle.tree_plan.specs.Cases.{sent}
use Rattle.tree_plan.proofs.Passing.{passed_on}
use Rattle.tree_plan.proofs.IdMaps.{none_done, done_step, done_each}
use Rattle.tree_plan.proofs.RefusingSteps.{doubled_still, unlisted_refused, refined}
use Rattle.tree_plan.proofs.refusing.refuse_misplaced.Goals as goal

-- what a read past the end would give
abbrev nowhere : FullNodeId
nowhere = record { tree = 0; node = record { 0 = 0 } }

abbrev nothing : FullNodeId × Place
nothing = (nowhere, (nowhere, 0))

pub returns-in_err-refuse_unlisted-clause-err : goal.returns-in_err-refuse_unlisted-clause-err
returns-in_err-refuse_unlisted-clause-err g c =
    let w = g.L.LookUps.world c.args.look_ups.now in let u = sent c.args.case.now in
    let stands = unlisted_refused w u c.requires.case.old c.args.case.now.compared.now c.requires.case.comparison c.in_err-refuse_unlisted.field-0.0 c.in_err-refuse_unlisted.ensures.err in
    passed_on (λ e. IsRefusal w u e) c.from_residual.result c.in_err-refuse_unlisted.field-0.0 c.from_residual.ensures.1 stands

pub loop-item-init : goal.loop-item-init
loop-item-init g c = record {
  world = refl;
  count = refl;
  done = none_done c.args.settled.now.doubles.items (λ id place. ¬ (IsKept c.args.removed.now place));
}

pub explain-requires-clause-double : goal.explain-requires-clause-double
explain-requires-clause-double g c =
    let w = g.L.LookUps.world c.args.look_ups.now in let u = sent c.args.case.now in
    let m = c.args.settled.now.doubles.items in
    let xs = c.deref-item-items.result.now in
    let e = get_or xs c.loop-item.item-index nothing in
    let there : Contains m e = subst (λ ys. Contains ys e) c.deref-item-items.ensures.value (Contains-get_or xs c.loop-item.item-index nothing c.loop-item-test.true) in
    subst (λ v. IsListedStill v u e.0) (sym c.loop-item.invariant.world)
    (doubled_still w u c.requires.case.old c.args.case.now.compared.now c.requires.case.comparison c.args.settled.now c.requires.settlement c.args.removed.now c.requires.removal e.0 e.1
    there (c.is_kept.ensures.0 c.if-is_kept.true))

pub returns-then-is_kept-clause-err : goal.returns-then-is_kept-clause-err
returns-then-is_kept-clause-err g c = subst (λ v. IsRefusal v (sent c.args.case.now) c.explain.result) c.loop-item.invariant.world c.explain.ensures.stands

pub loop-item-preserved : goal.loop-item-preserved
loop-item-preserved g c =
    let m = c.args.settled.now.doubles.items in
    record {
      world = c.loop-item.invariant.world;
      count = c.loop-item.invariant.count;
      done = done_step m (λ id p. ¬ (IsKept c.args.removed.now p)) c.deref-item-items.result.now c.deref-item-items.ensures.value c.loop-item.item-index nothing c.loop-item-test.true c.loop-item.invariant.done
          (λ h. let t = c.is_kept.ensures.1 h in let f = c.if-is_kept.false in cc);
    }

pub returns-clause-ok : goal.returns-clause-ok
returns-clause-ok g c =
    let m = c.args.settled.now.doubles.items in
    let same : length c.deref-item-items.result.now ≡ length m = ap length c.deref-item-items.ensures.value in
    refined (g.L.LookUps.world c.args.look_ups.now) (sent c.args.case.now) c.requires.case.old c.args.case.now.compared.now c.requires.case.comparison c.args.settled.now c.requires.settlement c.args.removed.now c.requires.removal
    c.in_ok-refuse_unlisted.ensures.ok (done_each m (λ id p. ¬ (IsKept c.args.removed.now p)) c.loop-item.item-index (omega (arith, c.loop-item-test.false)) c.loop-item.invariant.done)
