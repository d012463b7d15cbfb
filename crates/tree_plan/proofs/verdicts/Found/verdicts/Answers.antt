use Rattle.tree_plan.proofs.Adding.{named_judged, all_added, settled}
use Rattle.tree_plan.proofs.verdicts.Found.verdicts.Goals as goal

pub judge_entered-requires : goal.judge_entered-requires
judge_entered-requires g c = (
  c.requires,
  (c.in_ok-judge_named.ensures.ok.sound, named_judged g.step c.args.self.now c.requires c.in_ok-verdicts.verdicts c.judge_named.new.verdicts c.in_ok-judge_named.ensures.ok),
)

pub returns-clause-ok : goal.returns-clause-ok
returns-clause-ok g c id =
    settled g.step c.judge_told.new.verdicts c.settle_each.result c.in_ok-judge_told.ensures.ok.sound c.settle_each.ensures.found c.settle_each.ensures.each id
    (all_added g.step c.args.self.now c.requires c.in_ok-verdicts.verdicts c.judge_named.new.verdicts c.judge_entered.new.verdicts c.judge_moved_in.new.verdicts c.judge_gone.new.verdicts c.judge_told.new.verdicts
    c.in_ok-judge_named.ensures.ok c.in_ok-judge_entered.ensures.ok c.in_ok-judge_moved_in.ensures.ok c.in_ok-judge_gone.ensures.ok c.in_ok-judge_told.ensures.ok id)
