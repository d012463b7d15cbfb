use Rattle.std.proofs.Common.{◌≡◌, inl, List, ℕ, refl, sym, ap, subst}
use Rattle.views.specs.ShownWorlds.{world_of}
use Rattle.page.specs.Shown.{first_summary, shown_of, OrStops, ShowsState, Writes}
use Rattle.page.specs.declared.sections.Outcome.TheVariants.{Begun}
use Rattle.page.proofs.Drawn.{WritesText, text_by, unreported}
use Rattle.page.proofs.pager.Pager.begin_tree.Goals as goal

pub returns-in-Ok-clause-shows : goal.returns-in-Ok-clause-shows
returns-in-Ok-clause-shows g c =
    let old = c.args.self.now in
    let new = c.draw_begun.new.self in
    let text = c.in-Ok.text.items in
    let result = c.write_text.result in
    let before = g.O.Write.contents old.output.now in
    let after = g.O.Write.contents c.write_text.new.output in
    let s = shown_of old.updates old.states.items old.kept before (g.E.Write.contents old.errors.now) in
    let shows = ShowsState c.args.title.now (first_summary old.updates Begun) (world_of c.args.state) in
    let written : WritesText text result before after =
    subst (λ out. WritesText text result (g.O.Write.contents out.now) after) c.draw_begun.ensures.output
    (subst (λ (bytes : List ℕ). WritesText bytes result (g.O.Write.contents new.output.now) after) c.deref.ensures.value (text_by c.deref.result.now result (g.O.Write.contents new.output.now) after c.write_text.ensures.written c.write_text.ensures.cut)) in
    let done = unreported shows s new.updates new.states.items new.kept text c.in-Ok.ensures.shows result after written in
    subst (λ errs. OrStops result (g.E.Write.contents errs.now ≡ s.1) (λ adds. Writes shows adds s.0 (shown_of new.updates new.states.items new.kept after s.1).0) s
    (shown_of new.updates new.states.items new.kept after (g.E.Write.contents errs.now))) (sym c.draw_begun.ensures.errors) done

pub returns-in-Err-clause-shows : goal.returns-in-Err-clause-shows
returns-in-Err-clause-shows g c =
    inl (
      refl,
      record {
        written = ap (λ out. g.O.Write.contents out.now) c.draw_begun.ensures.output;
        told = ap (λ errs. g.E.Write.contents errs.now) c.draw_begun.ensures.errors;
        states = c.in-Err.ensures.kept;
      },
    )
