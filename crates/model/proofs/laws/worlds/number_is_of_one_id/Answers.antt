use Rattle.std.proofs.Common.{arith}
use Rattle.model.proofs.Worlds.Ids.{number_once}
use Rattle.model.proofs.laws.worlds.number_is_of_one_id.Goals as goal

pub returns : goal.returns
returns c = number_once c.args.a c.args.b (omega arith) (omega arith)
