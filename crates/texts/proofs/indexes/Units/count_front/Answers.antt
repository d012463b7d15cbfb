use Rattle.std.proofs.Common.{sym, ap, ◌∙◌}
use Rattle.views.specs.Runs.{sent_of}
use Rattle.texts.specs.GlobalIndexes.{unit_len, length_to}
use Rattle.texts.proofs.UnitCounts.{plain_front, each_is_unit, not_masked}
use Rattle.texts.proofs.indexes.Units.count_front.Goals as goal

pub returns-then-are_units : goal.returns-then-are_units
returns-then-are_units c = sym (each_is_unit c.args.self (sent_of c.args.run) c.args.masked (sym c.are_units.ensures ∙ c.if-are_units.true) c.requires.cut c.args.index c.requires.within)

pub returns : goal.returns
returns c =
    let r = sent_of c.args.run in
    let plain = not_masked c.args.masked r (sym c.are_units.ensures ∙ c.if-are_units.false) in
    c.count.ensures ∙ ap (unit_len c.args.self) c.front.ensures ∙ plain_front c.args.self r c.args.index c.requires.cut
    ∙ sym (ap (λ m. length_to c.args.self m r c.args.index) plain)
