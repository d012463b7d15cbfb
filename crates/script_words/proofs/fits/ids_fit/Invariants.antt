use Rattle.std.proofs.Common.{All, take}
use Rattle.script_words.specs.Reading.{IsId}
use Rattle.script_words.proofs.fits.ids_fit.Given as goal

-- those so far fit
abbrev pub invariant-loop-id : goal.invariant-loop-id
invariant-loop-id l = All IsId (take l.id-index l.ids)
