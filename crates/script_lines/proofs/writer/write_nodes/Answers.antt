use Rattle.std.proofs.Common.{arith, subst, ◌∙◌}
use Rattle.std.specs.Io.KnownBytes.{Appends}
use Rattle.script_lines.specs.Lines.{AppendsBeginning, entry_line}
use Rattle.script_lines.proofs.Beginnings.{begun_at, begun_front, on_err, written_next}
use Rattle.script_lines.proofs.writer.write_nodes.Goals as goal

pub returns-in_err-set_node_bytes-clause-begun : goal.returns-in_err-set_node_bytes-clause-begun
returns-in_err-set_node_bytes-clause-begun g c =
    on_err c.from_residual.result _ (begun_front entry_line c.args.nodes.now c.loop-entry.entry-index (g.O.Write.contents c.args.out.now) (g.O.Write.contents c.loop-entry.out) c.loop-entry.invariant)

pub returns-in_err-write_bytes-clause-begun : goal.returns-in_err-write_bytes-clause-begun
returns-in_err-write_bytes-clause-begun g c =
    let before = g.O.Write.contents c.args.out.now in
    let mid = g.O.Write.contents c.loop-entry.out in
    let after = g.O.Write.contents c.write_bytes.new.out in
    on_err c.from_residual-in_err-write_bytes.result _
    (begun_at entry_line c.args.nodes.now c.loop-entry.entry-index c.entry-item.result before mid after (omega (arith, c.loop-entry-test.true)) c.entry-item.is c.loop-entry.invariant
    (subst (λ text. AppendsBeginning mid after text) (c.deref.ensures.value ∙ c.in_ok-set_node_bytes.ensures.line) c.in_err-write_bytes.ensures.begun))

pub loop-entry-preserved : goal.loop-entry-preserved
loop-entry-preserved g c =
    let before = g.O.Write.contents c.args.out.now in
    let mid = g.O.Write.contents c.loop-entry.out in
    let after = g.O.Write.contents c.write_bytes.new.out in
    written_next entry_line c.args.nodes.now c.loop-entry.entry-index c.entry-item.result before mid after (omega (arith, c.loop-entry-test.true)) c.entry-item.is c.loop-entry.invariant
    (subst (λ text. Appends mid after text) (c.deref.ensures.value ∙ c.in_ok-set_node_bytes.ensures.line) c.in_ok-write_bytes.ensures.written)
