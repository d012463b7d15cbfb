use Rattle.std.proofs.Common.{ℕ, refl, sym, ap, subst}
use Rattle.page_states.specs.Found.{AreRightIf}
use Rattle.page.specs.declared.tally.Tally.{Tally}
use Rattle.page.proofs.reported.Reporter.tell_removed.Goals as goal

pub returns-clause-told : goal.returns-clause-told
returns-clause-told g c = λ old new of ready.
    let tally : Tally = c.args.self.now.tally in
    let seen = c.in_ok-view.ensures (subst (λ w. AreRightIf w c.args.self.now.before) (sym of) ready.0) in
    let right = subst (λ w. AreRightIf w c.view_of.new.found) of seen.1 in (
      record {
        node = c.in_ok-view.view;
        seen = seen.0.0;
        right = seen.0.1;
        told = c.in_ok-write_removed.ensures;
        tally = ap (λ (n : ℕ). record tally { removed = n }) c.saturating_add-self.ensures;
        marks = refl;
      },
      (right, ready.1),
    )
