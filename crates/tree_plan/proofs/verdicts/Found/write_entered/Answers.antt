use Rattle.std.proofs.Common.{[], length}
use Rattle.tree_plan.proofs.IdMaps.{read_step}
use Rattle.tree_plan.proofs.Walked.{row_entered, walks_nothing, up_to_entered}
use Rattle.tree_plan.proofs.verdicts.Found.write_entered.Goals as goal

pub write_arrival-requires : goal.write_arrival-requires
write_arrival-requires g c =
    let m = c.args.self.now.compared.entered in
    (c.requires.0, (c.requires.1, read_step m c.entries-entries.ensures.ascends c.entries-entries.result.now c.entries-entries.ensures.all c.loop-entered.entered _ c.loop-entered-test.true))

pub loop-entered-init : goal.loop-entered-init
loop-entered-init g c = walks_nothing g.step c.args.self.now c.requires.0 c.args.rows c.args.written.now

pub loop-entered-preserved : goal.loop-entered-preserved
loop-entered-preserved g c =
    row_entered g.step c.args.self.now c.requires.0 c.args.rows c.loop-entered.entered c.loop-entered.named c.in_ok-named.named c.in_ok-named-2.named c.args.written.now c.loop-entered.written c.write_named.new.written c.write_arrival.new.written
    c.entries-entries.result.now c.entries-entries.ensures.all _ c.loop-entered-test.true c.loop-entered.invariant c.in_ok-named.ensures.ok c.in_ok-named-2.ensures.ok

pub returns-clause-ok : goal.returns-clause-ok
returns-clause-ok g c =
    up_to_entered g.step c.args.self.now c.requires.0 [] c.args.rows c.loop-entered.named c.loop-entered.entered (length c.entries-entries.result.now) c.args.written.now c.loop-entered.written c.loop-entered-test.false c.loop-entered.invariant
