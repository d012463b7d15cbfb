use Rattle.std.proofs.Common.{◌++◌, rules, sym, ap, ◌∙◌}
use Rattle.script_lines.proofs.LineEnds.{some_items, no_items}
use Rattle.compare.specs.Parts.{is_border}
use Rattle.compare.proofs.Cutting.{none_read, one_more, all_read, border_read}
use Rattle.compare.proofs.parts.read_first.Goals as goal

pub loop-init : goal.loop-init
loop-init g c = none_read (g.R.Read.remaining c.args.input.now) c.new-first.result.items (search rules)

pub returns-then-is_empty : goal.returns-then-is_empty
returns-then-is_empty g c =
    all_read (g.R.Read.remaining c.args.input.now) (g.R.Read.remaining c.loop.input) c.loop.first.items c.read_line.new.line.items c.in_ok-read_line.ensures.bytes
    (no_items c.read_line.new.line.items _ c.is_empty.result c.read_line.new.line.ok.0 c.is_empty.ensures c.if-is_empty.true) c.loop.invariant

pub returns-then-is_border : goal.returns-then-is_border
returns-then-is_border g c =
    border_read (g.R.Read.remaining c.args.input.now) (g.R.Read.remaining c.loop.input) (g.R.Read.remaining c.read_line.new.input) c.loop.first.items c.read_line.new.line.items c.in_ok-read_line.ensures.bytes c.in_ok-read_line.ensures.rest
    (sym (c.is_border.ensures ∙ ap is_border c.deref.ensures.value) ∙ c.if-is_border.true) c.loop.invariant

pub loop-preserved : goal.loop-preserved
loop-preserved g c =
    one_more (g.R.Read.remaining c.args.input.now) (g.R.Read.remaining c.loop.input) (g.R.Read.remaining c.read_line.new.input) c.loop.first.items c.read_line.new.line.items c.extend_from_slice.new.self.items
    c.in_ok-read_line.ensures.bytes c.in_ok-read_line.ensures.rest
    (some_items c.read_line.new.line.items _ c.is_empty.result c.read_line.new.line.ok.0 c.is_empty.ensures c.if-is_empty.false) (sym (c.is_border.ensures ∙ ap is_border c.deref.ensures.value) ∙ c.if-is_border.false)
    (c.in_ok-extend_from_slice.ensures.items ∙ ap (λ x. c.loop.first.items ++ x) c.deref-in-loop.ensures.value) c.loop.invariant
