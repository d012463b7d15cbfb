use Rattle.std.proofs.Common.{Ok, Err}
use Rattle.script_lines.specs.InputLines.{ReadsAs}
use Rattle.script_lines.proofs.InputFaults.{line_reads, line_stopped, no_read_fault}
use Rattle.script_lines.proofs.line_reader.line_of.Goals as goal

pub returns-in-Ok-read_line-clause-reads : goal.returns-in-Ok-read_line-clause-reads
returns-in-Ok-read_line-clause-reads c =
    let k = c.in-Ok-read_line.ensures in
    let read : ReadsAs c.without_line_end.result.now (Ok c.in-Ok-read_line.line) =
    record { nothing = k.nothing; node = k.node; plain = k.means; update = k.update } in
    line_reads c.args.bytes.now c.in-Ok.text.now c.without_line_end.result.now (Ok c.in-Ok-read_line.line) c.in-Ok.ensures.cases.1 c.in-Ok.ensures.cases.0 c.without_line_end.ensures read

pub returns-in-Err-clause-reads : goal.returns-in-Err-clause-reads
returns-in-Err-clause-reads c =
    let k = c.in-Err.ensures in
    let read : ReadsAs c.without_line_end.result.now (Err c.in-Err.stop) =
    record { nothing = k.nothing; node = k.node; plain = k.means; update = k.update } in
    line_reads c.args.bytes.now c.in-Ok.text.now c.without_line_end.result.now (Err c.line_stop.result) c.in-Ok.ensures.cases.1 c.in-Ok.ensures.cases.0 c.without_line_end.ensures
    (line_stopped c.without_line_end.result.now c.in-Err.stop c.line_stop.result c.line_stop.ensures.memory c.line_stop.ensures.bad read)

pub returns-in-Err-clause-stops : goal.returns-in-Err-clause-stops
returns-in-Err-clause-stops c = λ e. no_read_fault c.in-Err.stop c.line_stop.result c.line_stop.ensures.memory c.line_stop.ensures.bad (cc)
