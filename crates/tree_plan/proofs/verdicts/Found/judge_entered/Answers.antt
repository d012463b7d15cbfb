use Rattle.tree_plan.proofs.Adding.{adds_row, all_rows}
use Rattle.tree_plan.proofs.verdicts.Found.judge_entered.Goals as goal

pub judge_unnamed-requires : goal.judge_unnamed-requires
judge_unnamed-requires g c = (c.requires.0, (c.loop-item.invariant.sound, λ there. c.loop-item.invariant.kept _ (c.requires.1.1 _ there)))

pub loop-item-preserved : goal.loop-item-preserved
loop-item-preserved g c = adds_row _ _ _ c.entries-item-items.ensures.all c.loop-item.item-index _ _ _ _ c.loop-item-test.true c.loop-item.invariant c.in_ok-judge_unnamed.ensures.ok

pub returns-clause-ok : goal.returns-clause-ok
returns-clause-ok g c = all_rows _ _ _ c.entries-item-items.ensures.all c.loop-item.item-index _ _ c.loop-item-test.false c.loop-item.invariant
