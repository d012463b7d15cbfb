use Rattle.std.proofs.Common.{sym}
use Rattle.tree_plan.proofs.IdMaps.{read_step}
use Rattle.tree_plan.proofs.Adding.{adds_row, all_rows}
use Rattle.tree_plan.proofs.verdicts.Found.judge_named.Goals as goal

pub judge_as-requires : goal.judge_as-requires
judge_as-requires g c =
    let m = c.args.self.now.compared.named in
    (c.requires.0, (sym (read_step m c.entries-item-items.ensures.ascends c.entries-item-items.result.now c.entries-item-items.ensures.all c.loop-item.item-index _ c.loop-item-test.true), c.loop-item.invariant.sound))

pub loop-item-preserved : goal.loop-item-preserved
loop-item-preserved g c = adds_row _ _ _ c.entries-item-items.ensures.all c.loop-item.item-index _ _ _ _ c.loop-item-test.true c.loop-item.invariant c.in_ok-judge_as.ensures.ok

pub returns-clause-ok : goal.returns-clause-ok
returns-clause-ok g c = all_rows _ _ _ c.entries-item-items.ensures.all c.loop-item.item-index _ _ c.loop-item-test.false c.loop-item.invariant
