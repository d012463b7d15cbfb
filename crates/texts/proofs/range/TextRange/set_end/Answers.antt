use Rattle.std.proofs.Common.{sym, ap, ◌∙◌}
use Rattle.std.specs.Ordering.{is_lt}
use Rattle.texts.specs.Positions.{node_text, root_at}
use Rattle.texts.proofs.RangeSteps.{same_text, bias_before}
use Rattle.texts.proofs.range.TextRange.set_end.Goals as goal

pub over-requires-clause-order : goal.over-requires-clause-order
over-requires-clause-order c =
    let p = c.start-start.result in
    let e = c.args.position in
    let same = same_text (root_at e) c.args.self.now.root c.requires.world c.requires.root ∙ sym (ap node_text c.start-start.ensures.same) in
    bias_before p c.biased_to_start.result e c.biased_to_start.ensures same (sym (c.is_lt.ensures ∙ ap is_lt c.order.ensures) ∙ c.if-is_lt.true)
