use Rattle.std.proofs.Common.{sym, ap, subst, ◌∙◌}
use Rattle.tree_plan.specs.declared.passes.Settled.{Settled}
use Rattle.tree_plan.specs.Settling.{KeepsDouble}
use Rattle.tree_plan.proofs.SettlingSteps.{kept_none, kept_some}
use Rattle.tree_plan.proofs.settling.keep_double.Goals as goal
use Rattle.tree_plan.proofs.settling.keep_double.Goals.{in-Some+in_ok-push, in_default}

pub returns-clause-ok : goal.returns-clause-ok
returns-clause-ok c =
    let a = c.args.settled.now in
    let id = c.args.id in
    let place = c.args.place in
    elim c.match-place.branch [
      | in-Some+in_ok-push w ↦ kept_some id place w.in-Some.place a c.match-place.settled w.in-Some.is (w.settled-is ∙ ap (λ p. record a { doubles = p }) (ap (λ (s : Settled). s.doubles) (sym w.settled-is))) (ap (λ (s : Settled). s.doubles.items) w.settled-is ∙ w.in_ok-push.ensures.items)
      | in_default w ↦ subst (KeepsDouble id place a) (sym w.settled-is) (kept_none id place a w.in_default.is)
    ]
