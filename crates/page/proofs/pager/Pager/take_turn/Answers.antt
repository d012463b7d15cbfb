use Rattle.std.proofs.Common.{inl, List, ℕ, refl, ap, subst}
use Rattle.page.specs.Shown.{report_text, shown_of, ShowsStep}
use Rattle.page.specs.declared.sections.Outcome.TheVariants.{Same}
use Rattle.page.proofs.Drawn.{WritesReported, reported, reported_by}
use Rattle.page.proofs.pager.Pager.take_turn.Goals as goal

pub returns-in-Ok-clause-shows : goal.returns-in-Ok-clause-shows
returns-in-Ok-clause-shows g c =
    let old = c.args.self.now in
    let new = c.draw_step.new.self in
    let it = c.in-Ok.it in
    let text = it.text.items in
    let result = c.write_reported.result in
    let before = g.O.Write.contents old.output.now in
    let after = g.O.Write.contents c.write_reported.new.output in
    let told = g.E.Write.contents old.errors.now in
    let told_after = g.E.Write.contents c.write_reported.new.errors in
    let s = shown_of old.updates old.states.items old.kept before told in
    let report = report_text c.args.line c.args.cause it.outcome in
    let written : WritesReported text report result before after told told_after =
    subst (λ errs. WritesReported text report result before after (g.E.Write.contents errs.now) told_after) c.draw_step.ensures.errors
    (subst (λ out. WritesReported text report result (g.O.Write.contents out.now) after (g.E.Write.contents new.errors.now) told_after) c.draw_step.ensures.output
    (subst (λ (bytes : List ℕ). WritesReported bytes report result (g.O.Write.contents new.output.now) after (g.E.Write.contents new.errors.now) told_after) c.deref.ensures.value (reported_by c.deref.result.now report result (g.O.Write.contents new.output.now) after (g.E.Write.contents new.errors.now) told_after c.write_reported.ensures.written c.write_reported.ensures.cut))) in
    record { outcome = it.outcome; shows = reported (λ a b. ShowsStep c.args.title.now c.args.cause it.outcome a c.args.session.now c.args.command c.draw_step.new.session b) s new.updates new.states.items new.kept text c.in-Ok.ensures.shows report result after told_after written }

pub returns-in-Err-clause-shows : goal.returns-in-Err-clause-shows
returns-in-Err-clause-shows g c = record {
  outcome = Same;
  shows =
      inl (
        refl,
        record {
          written = ap (λ out. g.O.Write.contents out.now) c.draw_step.ensures.output;
          told = ap (λ errs. g.E.Write.contents errs.now) c.draw_step.ensures.errors;
          states = c.in-Err.ensures.kept;
        },
      );
}
