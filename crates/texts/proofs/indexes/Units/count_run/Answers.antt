use Rattle.std.proofs.Common.{sym, ap, ◌∙◌, arith}
use Rattle.model.specs.TextRuns.{said_count}
use Rattle.views.specs.Runs.{sent_of}
use Rattle.texts.specs.GlobalIndexes.{unit_len, length_to}
use Rattle.texts.proofs.UnitCounts.{plain_run, each_is_unit, not_masked}
use Rattle.texts.proofs.indexes.Units.count_run.Goals as goal

pub returns-then-are_units : goal.returns-then-are_units
returns-then-are_units c =
    let r = sent_of c.args.run in
    c.character_count.ensures ∙ sym (each_is_unit c.args.self r c.args.masked (sym c.are_units.ensures ∙ c.if-are_units.true) c.requires (said_count r) (omega arith))

pub returns : goal.returns
returns c =
    let r = sent_of c.args.run in
    let plain = not_masked c.args.masked r (sym c.are_units.ensures ∙ c.if-are_units.false) in
    c.count.ensures ∙ ap (unit_len c.args.self) c.value.ensures ∙ plain_run c.args.self r c.requires ∙ sym (ap (λ m. length_to c.args.self m r (said_count r)) plain)
