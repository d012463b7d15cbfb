use Rattle.script_lines.proofs.InputFaults.{next_reads}
use Rattle.script_lines.proofs.LineEnds.{no_items, none_read, some_items}
use Rattle.script_lines.proofs.line_reader.LineReader.next.Goals as goal

pub returns-then-is_empty-clause-reads : goal.returns-then-is_empty-clause-reads
returns-then-is_empty-clause-reads g c =
    none_read (g.R.Read.remaining c.args.input.now) c.read_bytes.new.bytes.items c.in_ok-read_bytes.ensures.bytes
    (no_items c.read_bytes.new.bytes.items _ c.is_empty.result c.read_bytes.new.bytes.ok.0 c.is_empty.ensures c.if-is_empty.true)

pub returns-clause-reads : goal.returns-clause-reads
returns-clause-reads g c =
    next_reads (g.R.Read.remaining c.args.input.now) c.read_bytes.new.bytes.items c.deref.result.now c.in_ok-line.line c.in_ok-read_bytes.ensures.bytes
    (some_items c.read_bytes.new.bytes.items _ c.is_empty.result c.read_bytes.new.bytes.ok.0 c.is_empty.ensures c.if-is_empty.false)
    c.deref.ensures.value c.in_ok-line.ensures.reads
