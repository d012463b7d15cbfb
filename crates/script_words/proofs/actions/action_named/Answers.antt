use Rattle.std.proofs.Common.{Some, refl, ap, subst, sym, ◌∙◌}
use Rattle.std.proofs.lemmas.Option.{none-some, same_Some}
use Rattle.schema.specs.declared.actions.Action.TheVariants.{Other}
use Rattle.script_words.specs.Reading.{IsAction}
use Rattle.script_words.specs.Says.{SaysAction}
use Rattle.script_words.proofs.ActionNames.{other_is_action, said_other}
use Rattle.script_words.proofs.actions.action_named.Goals as goal

pub returns-in_err-other_code-in_default-clause-exact : goal.returns-in_err-other_code-in_default-clause-exact
returns-in_err-other_code-in_default-clause-exact c = λ action. (
  (λ e. absurd (none-some action (sym c.from_residual.ensures ∙ e))),
  (λ k. let o = said_other c.args.word.now action c.in_default.not-Click c.in_default.not-Focus c.in_default.not-Increment c.in_default.not-Decrement k.0 k.1 in
      absurd (none-some o.0 ((c.in_err-other_code-in_default.ensures.exact o.0).1 o.2))),
)

pub returns-in_ok-other_code-in_default-clause-exact : goal.returns-in_ok-other_code-in_default-clause-exact
returns-in_ok-other_code-in_default-clause-exact c = λ action.
    let code = c.in_ok-other_code-in_default.field-0 in (
      (λ e. let k = (c.in_ok-other_code-in_default.ensures.exact code).0 refl in
          subst (λ a. IsAction a × SaysAction c.args.word.now a) (same_Some (Other code) action e) (other_is_action code k.0, k.1)),
      (λ k. let o = said_other c.args.word.now action c.in_default.not-Click c.in_default.not-Focus c.in_default.not-Increment c.in_default.not-Decrement k.0 k.1 in
          ap Some (ap Other (same_Some code o.0 ((c.in_ok-other_code-in_default.ensures.exact o.0).1 o.2)) ∙ sym o.1)),
    )
