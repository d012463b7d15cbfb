use Rattle.std.proofs.Common.{◌≡◌, true, Some, subst}
use Rattle.model.specs.Forest.{IsFormed}
use Rattle.values_by_id.specs.Cells.{value_at}
use Rattle.views.specs.Nodes.{id_at}
use Rattle.find.proofs.Freed.{free_by_none, free_by_parent}
use Rattle.find.proofs.shown.Free.has_parent_of.Goals as goal

pub returns-in-Some : goal.returns-in-Some
returns-in-Some c = λ free is own.
    let q = id_at c.in-Some.parent in
    free_by_parent c.args.node.now (subst IsFormed c.tree_state.ensures c.know.ensures.formed) q c.in-Some.ensures.node own
    (free q (subst (λ k. value_at c.args.self.now.known k ≡ Some true) c.id.ensures (c.has.ensures is)))

pub returns-in-None : goal.returns-in-None
returns-in-None c = λ free is own. free_by_none c.args.node.now (subst IsFormed c.tree_state.ensures c.know.ensures.formed) c.in-None.ensures.node own
