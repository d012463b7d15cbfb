use Rattle.std.proofs.Common.{ℕ, List, [], Some, refl, sym, subst}
use Rattle.std.specs.Io.KnownBytes.{Appends}
use Rattle.views.specs.ShownWorlds.{world_of}
use Rattle.page.specs.Shown.{Kept, Opens, pages_of, WritesTree}
use Rattle.page.specs.States.{outcome_text, state_begun}
use Rattle.page.specs.declared.sections.Outcome.TheVariants.{Begun}
use Rattle.page.specs.declared.sections.Summary.{Summary}
use Rattle.page.proofs.pager.Pager.draw_begun.Goals as goal

pub returns-clause-shows : goal.returns-clause-shows
returns-clause-shows g c =
    let title = c.args.title.now in
    let old = c.args.self.now in
    let new = c.list.new.self in
    let it = c.first_summary-it.result in
    let w = world_of c.args.state in
    let number = c.next_number-number.result in
    let begun = c.begin_state.new.out.items in
    let noted = c.write_outcome.new.out.items in
    let drawn = c.write_tree.new.output.items in
    let marks = c.new-marks.result in
    let listed = c.in_ok-list.ensures.listed in
    let opened : Opens title it (pages_of old.updates old.states.items old.kept (Some [])) (pages_of new.updates new.states.items old.kept (Some noted)) = record {
      begun = Some begun;
      begins =
          subst (λ (n : ℕ). Appends (Some []) (Some begun) (state_begun n title it.cause)) c.next_number-number.ensures
          (subst (λ (none : List ℕ). Appends (Some none) (Some begun) (state_begun number title it.cause)) c.new-text.ensures.items c.in_ok-begin_state.ensures);
      notes = record {
        outcome = subst (λ (n : ℕ). Appends (Some begun) (Some noted) (outcome_text n it.outcome)) c.next_number-number.ensures c.in_ok-write_outcome.ensures;
        state = listed.state;
        titled = listed.titled;
        summary = listed.summary;
        states = listed.states;
        kept = refl;
        updates = c.in_ok-list.ensures.updates;
      };
    } in
    record {
      noted = Some noted;
      opens =
          subst (λ (it : Summary). Opens title it (pages_of old.updates old.states.items old.kept (Some [])) (pages_of new.updates new.states.items old.kept (Some noted))) c.first_summary-it.ensures opened;
      unmarked = marks;
      empty = c.new-marks.ensures.empty;
      tree =
          subst (λ (n : ℕ). WritesTree n w marks Begun (old.kept, Some noted) (new.kept, Some drawn)) c.next_number-number.ensures
          (subst (λ (kept : Kept). WritesTree number w marks Begun (old.kept, Some noted) (kept, Some drawn)) (sym c.list.ensures.shown) c.in_ok-write_tree.ensures);
    }
