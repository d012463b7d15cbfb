use Rattle.trees.proofs.Mirroring.{kept_without}
use Rattle.trees.proofs.mirror.KeptRecords.forget.Goals as goal

pub returns-clause-nodes : goal.returns-clause-nodes
returns-clause-nodes c = kept_without c.args.self.now.nodes c.remove.new.self c.args.id (λ q. c.remove.ensures.updates.0 q)
