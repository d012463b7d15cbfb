use Rattle.std.proofs.Common.{Some, sym, ap, ◌∙◌}
use Rattle.views.specs.Runs.{text_root_of}
use Rattle.text_boundaries.specs.RunNumbers.{number_in}
use Rattle.text_boundaries.proofs.BoundarySearches.{closes_here, ends_here, ends_later}
use Rattle.text_boundaries.proofs.RunSteps.{stepped, stayed, fewer_after}
use Rattle.text_boundaries.proofs.last_of.Goals as goal

pub returns-then-closes-clause-found : goal.returns-then-closes-clause-found
returns-then-closes-clause-found c =
    c.loop-mark.invariant.sought ∙ closes_here c.args.start c.requires c.loop-mark.run c.loop-mark.invariant.same c.args.mark (sym c.closes.ensures ∙ c.if-closes.true)

pub returns-then-not-step-clause-same : goal.returns-then-not-step-clause-same
returns-then-not-step-clause-same c =
    let stays = stayed c.step.result c.loop-mark.run c.step.new.self c.step.ensures c.if-not-step.true in
    ap text_root_of stays.same ∙ c.loop-mark.invariant.same

pub returns-then-not-step-clause-found : goal.returns-then-not-step-clause-found
returns-then-not-step-clause-found c =
    let stays = stayed c.step.result c.loop-mark.run c.step.new.self c.step.ensures c.if-not-step.true in
    c.loop-mark.invariant.sought ∙ ends_here c.args.start c.requires c.loop-mark.run c.loop-mark.invariant.same c.args.mark stays.last
    ∙ ap (λ r. Some (number_in r)) (sym stays.same)

pub loop-mark-smaller : goal.loop-mark-smaller
loop-mark-smaller c = fewer_after (stepped c.step.result c.loop-mark.run c.step.new.self c.step.ensures c.if-not-step.false)

pub loop-mark-preserved : goal.loop-mark-preserved
loop-mark-preserved c =
    let after = stepped c.step.result c.loop-mark.run c.step.new.self c.step.ensures c.if-not-step.false in
    record {
      same = after.root ∙ c.loop-mark.invariant.same;
      sought = c.loop-mark.invariant.sought
          ∙ ends_later c.args.start c.requires c.loop-mark.run c.loop-mark.invariant.same c.args.mark c.step.new.self after (sym c.closes.ensures ∙ c.if-closes.false);
    }
