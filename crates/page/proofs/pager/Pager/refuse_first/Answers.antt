use Rattle.std.proofs.Common.{inl, List, ℕ, refl, ap, subst}
use Rattle.page.specs.Shown.{report_text, shown_of, Opens, RefusesFirst}
use Rattle.page.specs.declared.sections.Summary.{Summary}
use Rattle.page.proofs.Drawn.{WritesReported, reported, reported_by}
use Rattle.page.proofs.pager.Pager.refuse_first.Goals as goal

pub returns-in-Ok-clause-shows : goal.returns-in-Ok-clause-shows
returns-in-Ok-clause-shows g c =
    let old = c.args.self.now in
    let new = c.draw_quiet.new.self in
    let it = c.first_summary-it.result in
    let text = c.in-Ok.text.items in
    let result = c.write_reported.result in
    let before = g.O.Write.contents old.output.now in
    let after = g.O.Write.contents c.write_reported.new.output in
    let told = g.E.Write.contents old.errors.now in
    let told_after = g.E.Write.contents c.write_reported.new.errors in
    let s = shown_of old.updates old.states.items old.kept before told in
    let report = report_text c.args.line it.cause it.outcome in
    let written : WritesReported text report result before after told told_after =
    subst (λ errs. WritesReported text report result before after (g.E.Write.contents errs.now) told_after) c.draw_quiet.ensures.errors
    (subst (λ out. WritesReported text report result (g.O.Write.contents out.now) after (g.E.Write.contents new.errors.now) told_after) c.draw_quiet.ensures.output
    (subst (λ (bytes : List ℕ). WritesReported bytes report result (g.O.Write.contents new.output.now) after (g.E.Write.contents new.errors.now) told_after) c.deref.ensures.value (reported_by c.deref.result.now report result (g.O.Write.contents new.output.now) after (g.E.Write.contents new.errors.now) told_after c.write_reported.ensures.written c.write_reported.ensures.cut))) in
    subst (λ (it : Summary). RefusesFirst c.args.title.now c.args.line it s result (shown_of new.updates new.states.items new.kept after told_after)) c.first_summary-it.ensures
    (reported (Opens c.args.title.now it) s new.updates new.states.items new.kept text c.in-Ok.ensures.opens report result after told_after written)

pub returns-in-Err-clause-shows : goal.returns-in-Err-clause-shows
returns-in-Err-clause-shows g c =
    inl (
      refl,
      record {
        written = ap (λ out. g.O.Write.contents out.now) c.draw_quiet.ensures.output;
        told = ap (λ errs. g.E.Write.contents errs.now) c.draw_quiet.ensures.errors;
        states = c.in-Err.ensures.kept;
      },
    )
