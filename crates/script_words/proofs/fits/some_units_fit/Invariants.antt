use Rattle.std.proofs.Common.{All, take}
use Rattle.script_words.specs.Reading.{IsUnits}
use Rattle.script_words.proofs.fits.some_units_fit.Given as goal

-- those so far fit
abbrev pub invariant-loop-index : goal.invariant-loop-index
invariant-loop-index l = All IsUnits (take l.index l.units)
