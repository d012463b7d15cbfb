use Rattle.std.proofs.Common.{[], length, sym}
use Rattle.tree_plan.proofs.IdMaps.{read_step}
use Rattle.tree_plan.proofs.Walked.{row_named, walks_nothing, up_to_named}
use Rattle.tree_plan.proofs.verdicts.Found.write_named_on.Goals as goal

pub write_node-requires : goal.write_node-requires
write_node-requires g c =
    let m = c.args.self.now.compared.named in (
      c.requires.0,
      (c.requires.1, (sym (read_step m c.entries-named.ensures.ascends c.entries-named.result.now c.entries-named.ensures.all c.loop-row.row _ c.loop-row-test.true), c.get_near-arrival.ensures)),
    )

pub loop-row-init : goal.loop-row-init
loop-row-init g c = walks_nothing g.step c.args.self.now c.requires.0 c.args.rows c.args.written.now

pub loop-row-preserved : goal.loop-row-preserved
loop-row-preserved g c =
    row_named g.step c.args.self.now c.requires.0 c.args.rows c.loop-row.row c.args.rows.entered c.args.written.now c.loop-row.written c.write_node.new.written c.entries-named.result.now c.entries-named.ensures.all
    _ c.loop-row-test.true c.loop-row.invariant c.in_ok-write_node.ensures.ok

pub returns-clause-ok : goal.returns-clause-ok
returns-clause-ok g c =
    up_to_named g.step c.args.self.now c.requires.0 [] c.args.rows c.loop-row.row (length c.entries-named.result.now) c.args.rows.entered c.args.written.now c.loop-row.written c.loop-row-test.false c.loop-row.invariant
