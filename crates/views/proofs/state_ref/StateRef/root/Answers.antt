use Rattle.std.proofs.Common.{◌∙◌, sym, ap, Some}
use Rattle.views.proofs.state_ref.StateRef.root.Goals as goal

pub returns-clause-node : goal.returns-clause-node
returns-clause-node c = c.checked_root.ensures.root ∙ ap Some (sym c.node.ensures.is)
