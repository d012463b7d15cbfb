use Rattle.std.proofs.Common.{ℕ, List, [], Some, subst}
use Rattle.std.specs.Io.KnownBytes.{Appends}
use Rattle.page.specs.States.{outcome_text, state_begun}
use Rattle.page.proofs.pager.Pager.draw_quiet.Goals as goal

pub returns-clause-opens : goal.returns-clause-opens
returns-clause-opens g c =
    let title = c.args.title.now in
    let it = c.args.it in
    let begun = c.begin_state.new.out.items in
    let noted = c.write_outcome.new.out.items in
    let listed = c.in_ok-list.ensures.listed in
    record {
      begun = Some begun;
      begins =
          subst (λ (n : ℕ). Appends (Some []) (Some begun) (state_begun n title it.cause)) c.next_number-number.ensures
          (subst (λ (none : List ℕ). Appends (Some none) (Some begun) (state_begun c.next_number-number.result title it.cause)) c.new-text.ensures.items c.in_ok-begin_state.ensures);
      notes = record {
        outcome = subst (λ (n : ℕ). Appends (Some begun) (Some noted) (outcome_text n it.outcome)) c.next_number-number.ensures c.in_ok-write_outcome.ensures;
        state = listed.state;
        titled = listed.titled;
        summary = listed.summary;
        states = listed.states;
        kept = c.list.ensures.shown;
        updates = c.in_ok-list.ensures.updates;
      };
    }
