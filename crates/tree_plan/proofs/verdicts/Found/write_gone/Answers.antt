use Rattle.std.proofs.Common.{[], ◌∷◌}
use Rattle.std.proofs.lemmas.Result.{on_ok_weaker}
use Rattle.tree_plan.proofs.Walked.{walks_one}
use Rattle.tree_plan.proofs.verdicts.Found.write_gone.Goals as goal

pub returns-clause-ok : goal.returns-clause-ok
returns-clause-ok g c =
    on_ok_weaker c.write_node.result (λ one. walks_one g.step c.args.self.now c.requires.0 (c.args.id ∷ []) c.args.rows c.args.written.now c.write_node.new.written one) c.write_node.ensures.ok
