use Rattle.std.proofs.Common.{Some, subst, sym}
use Rattle.model.specs.Focus.{IsFocus}
use Rattle.fed_tree.proofs.reads.focus_of.Goals as goal

pub returns : goal.returns
returns c = subst (λ w. IsFocus w (Some c.id.result)) c.state.ensures (subst (λ i. IsFocus c.state.result.now (Some i)) (sym c.id.ensures) c.in_ok-node.ensures.node)
