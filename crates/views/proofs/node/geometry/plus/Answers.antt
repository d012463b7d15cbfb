use Rattle.std.proofs.Common.{arith}
use Rattle.std.proofs.lemmas.Int.{ints}
use Rattle.views.proofs.node.geometry.plus.Goals as goal

pub returns : goal.returns
returns c = omega (arith, ints)
