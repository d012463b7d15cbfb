use Rattle.std.proofs.Common.{Some, subst, sym}
use Rattle.model.specs.Focus.{IsActiveDialog}
use Rattle.fed_tree.proofs.whole.dialog_of.Goals as goal

pub returns : goal.returns
returns c = subst (λ w. IsActiveDialog w (Some c.id.result)) c.state.ensures (subst (λ i. IsActiveDialog c.state.result.now (Some i)) (sym c.id.ensures) c.in_ok-dialog.ensures.node)
