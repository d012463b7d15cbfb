use Rattle.std.proofs.Common.{◌≡◌, length}
use Rattle.std.specs.List.{list_any}
use Rattle.views.specs.AllNodes.{descendants_left}
use Rattle.hidden_texts.specs.Walked.{is_password_node}
use Rattle.hidden_texts.proofs.hiding.has_password_input.Given as goal

-- none so far is a password input
abbrev pub invariant-loop-node : goal.invariant-loop-node
invariant-loop-node l = list_any is_password_node (descendants_left l.nodes) ≡ list_any is_password_node (descendants_left l.fn.below)

abbrev pub decreases-loop-node : goal.decreases-loop-node
decreases-loop-node l = length (descendants_left l.nodes)
