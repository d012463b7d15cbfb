use Rattle.std.proofs.Common.{◌≡◌, sym, ◌∙◌}
use Rattle.std.proofs.lemmas.Bool.{ltb-true, ltb-false}
use Rattle.views.proofs.Focusing.{is_not}
use Rattle.texts.proofs.RunOrder.{less_by_run, greater_by_run, order_in_run}
use Rattle.texts.proofs.position.TextPosition.order.Goals as goal

pub returns-then-is_same : goal.returns-then-is_same
returns-then-is_same c =
    let a = c.biased_to_start-first in
    let b = c.biased_to_start-second in
    c.cmp.ensures ∙ order_in_run c.args.self c.args.other a.result b.result c.requires.world c.requires.root a.ensures b.ensures (sym c.id.ensures ∙ c.is_same.ensures.0 c.if-is_same.true ∙ c.id-2.ensures)

pub returns-then-is_before : goal.returns-then-is_before
returns-then-is_before c =
    let a = c.biased_to_start-first in
    let b = c.biased_to_start-second in
    less_by_run c.args.self c.args.other a.result b.result c.requires.world c.requires.root a.ensures b.ensures (ltb-true _ _ (sym c.is_before.ensures ∙ c.if-is_before.true))

pub returns : goal.returns
returns c =
    let a = c.biased_to_start-first in
    let b = c.biased_to_start-second in
    greater_by_run c.args.self c.args.other a.result b.result c.requires.world c.requires.root a.ensures b.ensures
    (λ e. is_not c.is_same.result (c.id.result ≡ c.id-2.result) c.is_same.ensures c.if-is_same.false (c.id.ensures ∙ e ∙ sym c.id-2.ensures))
    (ltb-false _ _ (sym c.is_before.ensures ∙ c.if-is_before.false))
