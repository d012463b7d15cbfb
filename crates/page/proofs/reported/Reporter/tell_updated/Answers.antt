use Rattle.std.proofs.Common.{ℕ, Some, sym, ap, subst}
use Rattle.std.specs.BTreeMap.{Updates}
use Rattle.model.specs.declared.FullNodeId.{FullNodeId}
use Rattle.model.specs.FullIds.{full_cmp}
use Rattle.page_states.specs.declared.marks.Mark.TheVariants.{Updated}
use Rattle.page_states.specs.Found.{AreRightIf}
use Rattle.page.specs.declared.tally.Tally.{Tally}
use Rattle.page.proofs.reported.Reporter.tell_updated.Goals as goal

pub returns-clause-told : goal.returns-clause-told
returns-clause-told g c = λ old new of ready.
    let tally : Tally = c.args.self.now.tally in
    let earlier = c.in_ok-earlier.ensures (subst (λ w. AreRightIf w c.args.self.now.before) (sym of.0) ready.0) in
    let later = c.in_ok-later.ensures (subst (λ w. AreRightIf w c.args.self.now.after) (sym of.1) ready.1) in (
      record {
        node = c.in_ok-later.later;
        before = c.in_ok-earlier.earlier;
        seen = later.0.0;
        seen_before = earlier.0.0;
        right = later.0.1;
        right_before = earlier.0.1;
        told = c.in_ok-write_updated.ensures;
        tally = ap (λ (n : ℕ). record tally { updated = n }) c.saturating_add-self.ensures;
        marks = subst (λ (id : FullNodeId). Updates full_cmp c.args.self.now.marks c.insert.new.self id (Some Updated)) c.id.ensures c.in_ok-insert.ensures.updates;
      },
      (subst (λ w. AreRightIf w c.view_of.new.found) of.0 earlier.1, subst (λ w. AreRightIf w c.view_of-2.new.found) of.1 later.1),
    )
