use Rattle.std.proofs.Common.{◌∙◌}
use Rattle.texts.proofs.RangeRuns.{in_two_runs, in_one_run}
use Rattle.texts.proofs.range.TextRange.is_degenerate.Goals as goal

pub returns-else-is_same : goal.returns-else-is_same
returns-else-is_same c =
    c.if-is_same.false
    ∙ in_two_runs c.args.self.now c.start.result c.biased_to_start-start.result c.end.result c.biased_to_start-end.result c.start.ensures c.biased_to_start-start.ensures c.end.ensures c.biased_to_start-end.ensures
    c.id.result c.id-2.result c.is_same.result c.id.ensures c.id-2.ensures c.is_same.ensures c.if-is_same.false

pub returns-then-is_same : goal.returns-then-is_same
returns-then-is_same c =
    in_one_run c.args.self.now c.start.result c.biased_to_start-start.result c.end.result c.biased_to_start-end.result c.start.ensures c.biased_to_start-start.ensures c.end.ensures c.biased_to_start-end.ensures
    c.id.result c.id-2.result c.is_same.result c.id.ensures c.id-2.ensures c.is_same.ensures c.if-is_same.true
