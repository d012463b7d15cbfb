use Rattle.std.proofs.lemmas.Bool.Decides.{same_from_decides}
use Rattle.schema.specs.Same.{same_node, same_node-decides}
use Rattle.schema.proofs.equality.NodePartialEq.eq.Goals as goal

pub returns-clause-value : goal.returns-clause-value
returns-clause-value c = same_from_decides c.same.result (same_node c.args.self.now c.args.other.now) c.same.ensures (same_node-decides c.args.self.now c.args.other.now)
