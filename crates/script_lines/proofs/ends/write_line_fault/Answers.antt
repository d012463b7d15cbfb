use Rattle.script_lines.proofs.FaultTold.{on_ok_always, told_of_line}
use Rattle.script_lines.proofs.ends.write_line_fault.Goals as goal

pub returns : goal.returns
returns g c =
    let told = c.in_ok-write_fault.ensures in
    on_ok_always c.flush.result (told_of_line c.args.script.now (g.E.Write.contents c.args.errors.now) (g.E.Write.contents c.write_fault.new.out) (g.E.Write.contents c.flush.new.self) c.line_number.result c.last_line-line.result.now c.fault-fault.result told.0 c.last_line-line.ensures c.line_number.ensures c.fault-fault.ensures told.1 told.2 c.flush.ensures.bytes)
