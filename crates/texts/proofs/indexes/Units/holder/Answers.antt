use Rattle.std.proofs.Common.{◌+◌, sym, ap, ◌∙◌, arith}
use Rattle.std.proofs.lemmas.Str.{IsUtf8-drop}
use Rattle.model.specs.TextRuns.{run_value, said_count}
use Rattle.views.specs.Runs.{sent_of}
use Rattle.texts.specs.GlobalIndexes.{unit_len, length_to}
use Rattle.texts.proofs.UnitCounts.{each_is_unit, not_masked, one_more, cut_on, cut_at, left_on}
use Rattle.texts.proofs.indexes.Units.holder.Goals as goal

pub returns-then-are_units-clause-within : goal.returns-then-are_units-clause-within
returns-then-are_units-clause-within c =
    let r = sent_of c.args.run in
    let each = each_is_unit c.args.self r c.args.masked (sym c.are_units.ensures ∙ c.if-are_units.true) c.requires.cut in
    omega (arith, c.requires.within, each (said_count r) (omega arith))

pub returns-then-are_units-clause-above : goal.returns-then-are_units-clause-above
returns-then-are_units-clause-above c =
    let r = sent_of c.args.run in
    let each = each_is_unit c.args.self r c.args.masked (sym c.are_units.ensures ∙ c.if-are_units.true) c.requires.cut in
    omega (arith, each c.args.index (omega (arith, c.requires.within, each (said_count r) (omega arith))))

pub returns-then-are_units-clause-below : goal.returns-then-are_units-clause-below
returns-then-are_units-clause-below c =
    let r = sent_of c.args.run in
    let each = each_is_unit c.args.self r c.args.masked (sym c.are_units.ensures ∙ c.if-are_units.true) c.requires.cut in
    omega (arith, each (c.args.index + 1) (omega (arith, c.requires.within, each (said_count r) (omega arith))))

pub split_at-requires : goal.split_at-requires
split_at-requires c =
    let inv = c.loop-length.invariant in
    cut_at (run_value (sent_of c.args.run)) c.character_lengths-lengths.result.now c.loop-length.rest.now c.loop-length.length-index c.from.result c.loop-length-test.true c.from.ensures inv.text inv.cut

pub returns-then-left-count-clause-below : goal.returns-then-left-count-clause-below
returns-then-left-count-clause-below c =
    let r = sent_of c.args.run in
    let inv = c.loop-length.invariant in
    let more = one_more c.args.self r c.args.masked (not_masked c.args.masked r (sym c.are_units.ensures ∙ c.if-are_units.false)) c.character_lengths-lengths.result.now (c.character_lengths-lengths.ensures ∙ ap (λ d. d.character_lengths) c.node.ensures)
    c.loop-length.rest.now c.loop-length.length-index c.from.result c.loop-length-test.true c.from.ensures inv.same in
    let counted = c.count-count.ensures ∙ ap (unit_len c.args.self) c.split_at.ensures.front in
    let at = ap (λ k. length_to c.args.self c.args.masked r (k + 1)) inv.counted in
    omega (arith, more, counted, at, inv.passed, c.if-left-count.true)

pub loop-length-preserved : goal.loop-length-preserved
loop-length-preserved c =
    let r = sent_of c.args.run in
    let inv = c.loop-length.invariant in
    let lengths = c.character_lengths-lengths.result.now in
    let rest = c.loop-length.rest.now in
    let more = one_more c.args.self r c.args.masked (not_masked c.args.masked r (sym c.are_units.ensures ∙ c.if-are_units.false)) lengths (c.character_lengths-lengths.ensures ∙ ap (λ d. d.character_lengths) c.node.ensures)
    rest c.loop-length.length-index c.from.result c.loop-length-test.true c.from.ensures inv.same in
    let counted = c.count-count.ensures ∙ ap (unit_len c.args.self) c.split_at.ensures.front in
    let boundary = cut_at (run_value r) lengths rest c.loop-length.length-index c.from.result c.loop-length-test.true c.from.ensures inv.text inv.cut in
    record {
      text = rw c.split_at.ensures.back (IsUtf8-drop rest c.from.result inv.text boundary);
      counted = omega (arith, inv.counted);
      cut = rw c.split_at.ensures.back (cut_on (run_value r) lengths rest c.loop-length.length-index c.from.result c.loop-length-test.true c.from.ensures inv.cut);
      same = rw c.split_at.ensures.back (left_on (run_value r) lengths rest c.loop-length.length-index c.from.result c.loop-length-test.true c.from.ensures inv.same);
      passed = omega (arith, more, counted, inv.passed, c.if-left-count.false);
    }
