use Rattle.std.proofs.Common.{◌∙◌, arith}
use Rattle.texts.proofs.LineCounts.{lines_fit, line_ends, line_goes_on}
use Rattle.texts.proofs.position.TextPosition.to_line_index.Goals as goal

pub overflow_add-lines : goal.overflow_add-lines
overflow_add-lines c =
    let p = c.args.self.now in
    let fits = lines_fit p in
    let more = line_ends p c.loop-previous.run c.in-Some.previous c.loop-previous.invariant.same c.in-Some.ensures c.ends_line.result c.ends_line.ensures c.if-ends_line.true in
    omega (arith, fits, more, c.loop-previous.invariant.counted)

pub loop-previous-preserved-then-ends_line : goal.loop-previous-preserved-then-ends_line
loop-previous-preserved-then-ends_line c =
    let p = c.args.self.now in
    let more = line_ends p c.loop-previous.run c.in-Some.previous c.loop-previous.invariant.same c.in-Some.ensures c.ends_line.result c.ends_line.ensures c.if-ends_line.true in
    record { same = c.in-Some.ensures.root ∙ c.loop-previous.invariant.same; counted = omega (arith, more, c.loop-previous.invariant.counted) }

pub loop-previous-preserved : goal.loop-previous-preserved
loop-previous-preserved c =
    let p = c.args.self.now in
    let same = line_goes_on p c.loop-previous.run c.in-Some.previous c.loop-previous.invariant.same c.in-Some.ensures c.ends_line.result c.ends_line.ensures c.if-ends_line.false in
    record { same = c.in-Some.ensures.root ∙ c.loop-previous.invariant.same; counted = omega (arith, same, c.loop-previous.invariant.counted) }
