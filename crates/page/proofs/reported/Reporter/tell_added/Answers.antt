use Rattle.std.proofs.Common.{ℕ, Some, sym, ap, subst}
use Rattle.std.specs.BTreeMap.{Updates}
use Rattle.model.specs.declared.FullNodeId.{FullNodeId}
use Rattle.model.specs.FullIds.{full_cmp}
use Rattle.page_states.specs.declared.marks.Mark.TheVariants.{Added}
use Rattle.page_states.specs.Found.{AreRightIf}
use Rattle.page.specs.declared.tally.Tally.{Tally}
use Rattle.page.proofs.reported.Reporter.tell_added.Goals as goal

pub returns-clause-told : goal.returns-clause-told
returns-clause-told g c = λ old new of ready.
    let tally : Tally = c.args.self.now.tally in
    let seen = c.in_ok-view.ensures (subst (λ w. AreRightIf w c.args.self.now.after) (sym of) ready.1) in
    let right = subst (λ w. AreRightIf w c.view_of.new.found) of seen.1 in (
      record {
        node = c.in_ok-view.view;
        seen = seen.0.0;
        right = seen.0.1;
        told = c.in_ok-write_added.ensures;
        tally = ap (λ (n : ℕ). record tally { added = n }) c.saturating_add-self.ensures;
        marks = subst (λ (id : FullNodeId). Updates full_cmp c.args.self.now.marks c.insert.new.self id (Some Added)) c.id.ensures c.in_ok-insert.ensures.updates;
      },
      (ready.0, right),
    )
