use Rattle.std.proofs.Common.{sym, ap, ◌∙◌}
use Rattle.std.specs.Ordering.{is_lt}
use Rattle.texts.specs.Positions.{node_text, root_at}
use Rattle.texts.proofs.RangeSteps.{same_text, bias_before}
use Rattle.texts.proofs.range.TextRange.set_start.Goals as goal

pub over-requires-clause-order : goal.over-requires-clause-order
over-requires-clause-order c =
    let p = c.args.position in
    let e = c.end-end.result in
    let same = ap node_text c.end-end.ensures.same ∙ same_text c.args.self.now.root (root_at p) (sym c.requires.world) (sym c.requires.root) in
    bias_before p c.biased_to_start.result e c.biased_to_start.ensures same (sym (c.is_lt.ensures ∙ ap is_lt c.order.ensures) ∙ c.if-is_lt.true)
