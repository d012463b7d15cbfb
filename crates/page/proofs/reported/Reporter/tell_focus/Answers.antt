use Rattle.std.proofs.Common.{ℕ, refl, ap}
use Rattle.page.specs.declared.tally.Tally.{Tally}
use Rattle.page.proofs.reported.Reporter.tell_focus.Goals as goal

pub returns-clause-told : goal.returns-clause-told
returns-clause-told g c = λ old new of ready.
    let tally : Tally = c.args.self.now.tally in
    let earlier = c.in_ok-earlier.ensures old of.0 ready.0 in
    let later = c.in_ok-later.ensures new of.1 ready.1 in (
      record {
        node = c.in_ok-later.later;
        before = c.in_ok-earlier.earlier;
        seen = later.0.0;
        seen_before = earlier.0.0;
        right = later.0.1;
        right_before = earlier.0.1;
        told = c.in_ok-write_focus.ensures;
        tally = ap (λ (n : ℕ). record tally { moved = n }) c.saturating_add-self.ensures;
        marks = refl;
      },
      (earlier.1, later.1),
    )
