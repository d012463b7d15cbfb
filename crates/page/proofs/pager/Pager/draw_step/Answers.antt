use Rattle.std.proofs.Common.{ℕ, List, [], Some, refl, sym, subst, ◌∙◌}
use Rattle.std.specs.Io.KnownBytes.{Appends}
use Rattle.model.specs.World.{World}
use Rattle.page.specs.Reports.{ReportsStep}
use Rattle.page.specs.Shown.{Kept, WritesTree}
use Rattle.page.specs.States.{outcome_text, state_begun}
use Rattle.page.proofs.pager.Pager.draw_step.Goals as goal

pub returns-clause-shows : goal.returns-clause-shows
returns-clause-shows g c =
    let title = c.args.title.now in
    let old = c.args.self.now in
    let new = c.list.new.self in
    let it = c.in_ok-it.it in
    let w = c.report_step.new.session in
    let number = c.next_number-number.result in
    let begun = c.begin_state.new.out.items in
    let told = c.report_step.new.out.items in
    let noted = c.write_outcome.new.out.items in
    let drawn = c.write_tree.new.output.items in
    let listed = c.in_ok-list.ensures.listed in
    record {
      begun = Some begun;
      begins =
          subst (λ (n : ℕ). Appends (Some []) (Some begun) (state_begun n title c.args.cause)) c.next_number-number.ensures
          (subst (λ (none : List ℕ). Appends (Some none) (Some begun) (state_begun number title c.args.cause)) c.new-text.ensures.items c.in_ok-begin_state.ensures);
      told = Some told;
      tally = it.tally;
      marks = it.marks;
      reports = subst (λ (n : ℕ). ReportsStep n c.args.session.now c.args.command w (Some begun) it.outcome it.tally it.marks (Some told)) c.next_number-number.ensures c.in_ok-it.ensures;
      noted = Some noted;
      notes = record {
        outcome = subst (λ (n : ℕ). Appends (Some told) (Some noted) (outcome_text n it.outcome)) c.next_number-number.ensures c.in_ok-write_outcome.ensures;
        state = listed.state;
        titled = listed.titled;
        summary = listed.summary;
        states = listed.states;
        kept = refl;
        updates = c.in_ok-list.ensures.updates;
      };
      tree =
          subst (λ (n : ℕ). WritesTree n w it.marks it.outcome (old.kept, Some noted) (new.kept, Some drawn)) c.next_number-number.ensures
          (subst (λ (kept : Kept). WritesTree number w it.marks it.outcome (old.kept, Some noted) (kept, Some drawn)) (sym c.list.ensures.shown)
          (subst (λ (v : World). WritesTree number v it.marks it.outcome (old.kept, Some noted) (c.write_tree.new.kept, Some drawn)) (c.view-state.ensures ∙ c.state.ensures ∙ c.tree.ensures) c.in_ok-write_tree.ensures));
    }
