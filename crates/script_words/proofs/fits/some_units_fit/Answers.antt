use Rattle.std.proofs.Common.{All, pos, subst}
use Rattle.std.proofs.lemmas.List.{take_all}
use Rattle.std.proofs.lemmas.List.Elements.{All-more}
use Rattle.script_words.specs.Reading.{IsUnits}
use Rattle.script_words.proofs.fits.some_units_fit.Goals as goal

pub loop-index-preserved : goal.loop-index-preserved
loop-index-preserved c = All-more IsUnits c.args.units.now c.loop-index.index (pos 0) c.loop-index-test.true c.loop-index.invariant (subst IsUnits c.unit_at-unit.ensures.exact c.unit_at-unit.ensures.narrow)

pub returns : goal.returns
returns c = subst (All IsUnits) (take_all c.loop-index.index c.args.units.now c.loop-index-test.false) c.loop-index.invariant
