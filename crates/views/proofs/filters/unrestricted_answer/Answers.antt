use Rattle.std.proofs.Common.{◌∙◌, sym}
use Rattle.views.specs.Nodes.{world_at, id_at}
use Rattle.views.proofs.Filtering.{free_passed, free_kept}
use Rattle.views.proofs.filters.unrestricted_answer.Goals as goal

pub returns-then-is_passed : goal.returns-then-is_passed
returns-then-is_passed c = free_passed (world_at c.args.node.now) c.know.ensures.formed (id_at c.args.node.now) c.requires.free (sym (c.is_passed.ensures c.requires.focus) ∙ c.if-is_passed.true)

pub returns : goal.returns
returns c = free_kept (world_at c.args.node.now) c.know.ensures.formed (id_at c.args.node.now) c.requires.free (sym (c.is_passed.ensures c.requires.focus) ∙ c.if-is_passed.false)
