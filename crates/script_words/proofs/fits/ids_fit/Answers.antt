use Rattle.std.proofs.Common.{All, subst}
use Rattle.std.proofs.lemmas.List.{take_all}
use Rattle.std.proofs.lemmas.List.Elements.{All-more}
use Rattle.script_words.specs.Reading.{IsId}
use Rattle.script_words.proofs.fits.ids_fit.Goals as goal

pub loop-id-preserved : goal.loop-id-preserved
loop-id-preserved c = All-more IsId c.args.ids.now c.loop-id.id-index _ c.loop-id-test.true c.loop-id.invariant c.id_fits.ensures

pub returns : goal.returns
returns c = subst (All IsId) (take_all c.loop-id.id-index c.args.ids.now c.loop-id-test.false) c.loop-id.invariant
