use Rattle.std.proofs.Common.{◌≡◌, drop}
use Rattle.schema.specs.RunFits.{rise_below}
use Rattle.schema.proofs.RisingNumbers.{rising_from}
use Rattle.schema.proofs.run_fits.rise_below.Given as goal

abbrev pub invariant-loop-number : goal.invariant-loop-number
invariant-loop-number l = rise_below l.numbers l.count ≡ rising_from l.least l.count (drop l.number-index l.numbers)
