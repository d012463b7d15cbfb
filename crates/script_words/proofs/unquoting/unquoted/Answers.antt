use Rattle.std.proofs.Common.{◌≡◌, ◌++◌, ◌∷◌, [], Some, None, false, arith, ap, sym, refl, length, ◌∙◌}
use Rattle.std.proofs.lemmas.Option.{none-some, same_Some}
use Rattle.script_words.specs.Texts.{unquoted_after}
use Rattle.script_words.specs.declared.unquoting.InQuotes.TheVariants.{Ends, Escapes, Gives}
use Rattle.script_words.proofs.TextSteps.{left_open, one_step, read_back}
use Rattle.script_words.proofs.unquoting.unquoted.Goals as goal

pub taking-preserved-in-Some-Escapes : goal.taking-preserved-in-Some-Escapes
taking-preserved-in-Some-Escapes c = (
  one_step _ _ _ _ _ _ (Some Escapes) c.taking.invariant.0 c.in-Some.ensures.cases.0 (ap Some (sym c.in-Some-Escapes.field-0-is) ∙ c.in-Some-Escapes.ensures),
  omega (arith, ap length c.in-Some.ensures.cases.0, c.taking.invariant.1),
)

pub taking-preserved : goal.taking-preserved
taking-preserved c = (
  ap (λ text. unquoted_after text false c.in-Some.rest.now) c.in_ok-push-in-Some-Gives.ensures.items
      ∙ one_step _ _ _ _ _ _ (Some (Gives c.in-Some-Gives.byte)) c.taking.invariant.0 c.in-Some.ensures.cases.0 (ap Some (sym c.in-Some-Gives.field-0-is) ∙ c.in-Some-Gives.ensures),
  omega (arith, ap length c.in-Some.ensures.cases.0, c.taking.invariant.1),
)

pub returns-in-Some-Ends-clause-means : goal.returns-in-Some-Ends-clause-means
returns-in-Some-Ends-clause-means c = (
  (c.taking.text.items, c.in-Some.rest.now),
  sym (one_step _ _ _ _ _ _ (Some Ends) c.taking.invariant.0 c.in-Some.ensures.cases.0 (ap Some (sym c.in-Some-Ends.field-0-is) ∙ c.in-Some-Ends.ensures)),
  (refl, refl),
)

pub returns-in-None-clause-means : goal.returns-in-None-clause-means
returns-in-None-clause-means c = sym (one_step _ _ _ _ _ _ None c.taking.invariant.0 c.in-Some.ensures.cases.0 c.in-None.ensures)

pub returns-clause-means : goal.returns-clause-means
returns-clause-means c = left_open _ _ _ _ c.taking.invariant.0 c.in_default.ensures.cases

pub returns-in-Some-Ends-clause-reads : goal.returns-in-Some-Ends-clause-reads
returns-in-Some-Ends-clause-reads c = λ text more e.
    let p = same_Some _ _ (read_back c.args.bytes.now (Some (c.taking.text.items, c.in-Some.rest.now)) (sym (one_step _ _ _ _ _ _ (Some Ends) c.taking.invariant.0 c.in-Some.ensures.cases.0 (ap Some (sym c.in-Some-Ends.field-0-is) ∙ c.in-Some-Ends.ensures))) text more e) in (ap (λ r. r.0) p, ap (λ r. length r.1) p)

pub returns-in-None-clause-reads : goal.returns-in-None-clause-reads
returns-in-None-clause-reads c = λ text more e. absurd (none-some _ (read_back c.args.bytes.now None (returns-in-None-clause-means c) text more e))

pub returns-clause-reads : goal.returns-clause-reads
returns-clause-reads c = λ text more e. absurd (none-some _ (read_back c.args.bytes.now None (returns-clause-means c) text more e))
