use Rattle.std.proofs.Common.{◌≡◌, sym, subst}
use Rattle.std.specs.Prelude.{IsSome}
use Rattle.std.specs.FinMap.{get}
use Rattle.std.proofs.lemmas.Result.{IfErr-weaker}
use Rattle.schema.specs.UpdateData.{update_data}
use Rattle.model.specs.World.{World}
use Rattle.model.specs.Update.{IsFirst, KeepsRules}
use Rattle.model.specs.Surgery.{IsOld, IsPassed}
use Rattle.tree_changes.specs.Refusals.{IsRefusal}
use Rattle.tree_changes.specs.declared.error.UpdateError.TheVariants.{Memory}
use Rattle.tree_plan.specs.Passes.{HoldsOpened, HoldsCompared, HoldsRemoved, IsFocusing}
use Rattle.tree_plan.proofs.Passing.{passed_on}
use Rattle.tree_plan.proofs.Within.{root_tree_there}
use Rattle.tree_plan.proofs.deciding.conclude.Goals as goal

pub find_focus-requires-clause-case : goal.find_focus-requires-clause-case
find_focus-requires-clause-case g c =
    let f = c.args.findings in
    let found = c.requires.1.1.1.1 in
    let update = c.requires.1.1.0 in
    record {
      old = subst (λ w. IsOld w) c.requires.1.0 found.old;
      opening = subst (λ w. HoldsOpened w (update_data c.args.update.now) f.opened) c.requires.1.0 (subst (λ u. HoldsOpened g.step.old u f.opened) update found.opening);
      comparison = subst (λ w. HoldsCompared w (update_data c.args.update.now) f.compared) c.requires.1.0 (subst (λ u. HoldsCompared g.step.old u f.compared) update found.comparison);
    }

pub find_focus-requires-clause-present : goal.find_focus-requires-clause-present
find_focus-requires-clause-present g c =
    subst (λ (w : World). ¬ (IsFirst w) → IsSome (get w.trees 0)) c.requires.1.0 (root_tree_there g.step.old c.requires.1.1.1.1.old)

pub find_focus-requires-clause-removal : goal.find_focus-requires-clause-removal
find_focus-requires-clause-removal g c =
    let found = c.args.findings in
    subst (λ w. HoldsRemoved w (update_data c.args.update.now) found.removed) c.requires.1.0 (subst (λ u. HoldsRemoved g.step.old u found.removed) c.requires.1.1.0 c.requires.1.1.1.1.removal)

pub find_focus-requires-clause-passed : goal.find_focus-requires-clause-passed
find_focus-requires-clause-passed g c =
    subst (λ w. IsPassed w (update_data c.args.update.now)) c.requires.1.0 (subst (λ u. IsPassed g.step.old u) c.requires.1.1.0 c.requires.1.1.1.1.regrafting.passed)

pub returns-in_err-focused-clause-err : goal.returns-in_err-focused-clause-err
returns-in_err-focused-clause-err g c =
    let e = c.in_err-focused.field-0.0 in
    passed_on (λ x. IsRefusal g.step.old g.step.update x) c.from_residual.result e c.from_residual.ensures.1 (subst (λ u. IsRefusal g.step.old u e) (sym c.requires.1.1.0) (subst (λ w. IsRefusal w (update_data c.args.update.now) e) (sym c.requires.1.0) c.in_err-focused.ensures.err))

pub write-requires : goal.write-requires
write-requires g c =
    let found = c.requires.1.1.1.1 in
    let focused = c.in_ok-focused.focused in
    let u = update_data c.args.update.now in (
      c.requires.1.1.0,
      (
        record {
          old = found.old;
          opening = found.opening;
          comparison = found.comparison;
          removal = found.removal;
          regrafting = found.regrafting;
          kept = subst (λ x. KeepsRules g.step.old x) (sym c.requires.1.1.0) (subst (λ w. KeepsRules w u) (sym c.requires.1.0) c.in_ok-focused.ensures.keeps);
          rebuilt = c.requires.1.1.1.0;
          told = found.told;
        },
        subst (λ x. IsFocusing g.step.old x focused) (sym c.requires.1.1.0) (subst (λ w. IsFocusing w u focused) (sym c.requires.1.0) c.in_ok-focused.ensures.ok),
      ),
    )

pub returns-clause-err : goal.returns-clause-err
returns-clause-err g c =
    IfErr-weaker c.write.result (λ e. e ≡ Memory) (λ e. IsRefusal g.step.old g.step.update e) (λ e same. subst (λ x. IsRefusal g.step.old g.step.update x) (sym same) tt) c.write.ensures.err
