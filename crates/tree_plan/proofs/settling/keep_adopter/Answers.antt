use Rattle.std.proofs.Common.{◌≡◌, ◌∙◌, sym, ap, ◌||◌, is_some}
use Rattle.tree_plan.specs.Settling.{WasBelow}
use Rattle.tree_plan.proofs.SettlingSteps.{adopted_here}
use Rattle.tree_plan.proofs.settling.keep_adopter.Goals as goal
use Rattle.tree_plan.proofs.settling.keep_adopter.Goals.{then-settled, else-settled}

pub returns-clause-ok : goal.returns-clause-ok
returns-clause-ok c =
    let a = c.args.settled.now in
    let moved : c.if-settled.settled ≡ (a.has_moved || is_some c.args.was) = elim c.if-settled.branch [
      | then-settled w ↦ w.settled-is ∙ w.if-settled.true ∙ ap (λ b. b || is_some c.args.was) (sym w.if-settled.true)
      | else-settled w ↦ w.settled-is ∙ w.is_some-settled.ensures ∙ ap (λ b. b || is_some c.args.was) (sym w.if-settled.false)
    ] in
    let other : ¬ (WasBelow c.args.was c.args.parent) = λ h. let t = c.is_below.ensures.1 h in let f = c.if-is_below.false in cc in
    adopted_here c.args.parent c.args.was a c.insert.new.self c.if-settled.settled other c.in_ok-insert.ensures.updates.0 moved
