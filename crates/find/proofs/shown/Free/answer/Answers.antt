use Rattle.std.proofs.Common.{◌≡◌, true, Some, subst}
use Rattle.values_by_id.specs.Cells.{value_at}
use Rattle.views.specs.Nodes.{id_at}
use Rattle.find.proofs.shown.Free.answer.Goals as goal

pub returns-then-has : goal.returns-then-has
returns-then-has c = λ free.
    c.free_answer.ensures (free (id_at c.args.node.now) (subst (λ k. value_at c.args.self.now.known k ≡ Some true) c.id.ensures (c.has.ensures c.if-has.true)))
