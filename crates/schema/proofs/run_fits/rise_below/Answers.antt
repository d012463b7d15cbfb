use Rattle.schema.proofs.RisingNumbers.{rises_from_zero}
use Rattle.schema.proofs.run_fits.rise_below.Goals as goal

pub loop-number-init : goal.loop-number-init
loop-number-init c = rises_from_zero c.args.count c.args.numbers.now
