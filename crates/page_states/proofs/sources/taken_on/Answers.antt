use Rattle.std.proofs.Common.{refl, subst}
use Rattle.model.specs.Forest.{IsFormed}
use Rattle.views.specs.Nodes.{world_at, id_at}
use Rattle.page_states.proofs.SameRuns.{carried_below}
use Rattle.page_states.proofs.sources.taken_on.Goals as goal

pub returns : goal.returns
returns c =
    let n = c.args.node in
    carried_below (world_at n) (subst IsFormed c.tree_state.ensures c.know.ensures.formed) c.args.parent (id_at n) c.args.source _ c.requires.parent c.requires.source
    (c.is_passed.ensures c.if-not-is_passed.false) refl refl c.only_child.ensures
