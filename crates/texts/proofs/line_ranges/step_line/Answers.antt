use Rattle.std.proofs.Common.{sym, ◌∙◌}
use Rattle.text_boundaries.specs.declared.Mark.TheVariants.{Line}
use Rattle.text_boundaries.proofs.BoundarySearches.{closes_here, ends_here, ends_later}
use Rattle.text_boundaries.proofs.RunSteps.{stepped, stayed, fewer_after}
use Rattle.texts.proofs.line_ranges.step_line.Goals as goal

pub returns-then-not-step : goal.returns-then-not-step
returns-then-not-step c =
    let r = c.args.run.now in
    let run = c.loop-ends.run in
    let inv = c.loop-ends.invariant in
    let stays = stayed c.step.result run c.step.new.self c.step.ensures c.if-not-step.true in
    record { last = run; same = inv.same; found = inv.sought ∙ ends_here r c.requires run inv.same Line stays.last; next = stays.last }

pub returns-then-ends : goal.returns-then-ends
returns-then-ends c =
    let r = c.args.run.now in
    let run = c.loop-ends.run in
    let inv = c.loop-ends.invariant in
    let after = stepped c.step.result run c.step.new.self c.step.ensures c.if-not-step.false in
    record { last = run; same = inv.same; found = inv.sought ∙ closes_here r c.requires run inv.same Line (sym c.ends_line-ends.ensures ∙ c.if-ends.true); next = after }

pub loop-ends-smaller : goal.loop-ends-smaller
loop-ends-smaller c = fewer_after (stepped c.step.result c.loop-ends.run c.step.new.self c.step.ensures c.if-not-step.false)

pub loop-ends-preserved : goal.loop-ends-preserved
loop-ends-preserved c =
    let run = c.loop-ends.run in
    let inv = c.loop-ends.invariant in
    let after = stepped c.step.result run c.step.new.self c.step.ensures c.if-not-step.false in
    record {
      same = after.root ∙ inv.same;
      sought = inv.sought ∙ ends_later c.args.run.now c.requires run inv.same Line c.step.new.self after (sym c.ends_line-ends.ensures ∙ c.if-ends.false);
    }
