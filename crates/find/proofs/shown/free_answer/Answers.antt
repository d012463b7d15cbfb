use Rattle.std.proofs.Common.{◌∙◌, subst, sym}
use Rattle.model.specs.Forest.{IsFormed}
use Rattle.views.specs.Nodes.{world_at, id_at}
use Rattle.views.proofs.Filtering.{free_passed, free_kept}
use Rattle.find.proofs.shown.free_answer.Goals as goal

pub returns-then-is_passed : goal.returns-then-is_passed
returns-then-is_passed c = λ free. free_passed (world_at c.args.node.now) (subst IsFormed c.tree_state.ensures c.know.ensures.formed) (id_at c.args.node.now) free (sym c.is_passed.ensures ∙ c.if-is_passed.true)

pub returns : goal.returns
returns c = λ free. free_kept (world_at c.args.node.now) (subst IsFormed c.tree_state.ensures c.know.ensures.formed) (id_at c.args.node.now) free (sym c.is_passed.ensures ∙ c.if-is_passed.false)
