use Rattle.std.proofs.Common.{◌≡◌, take}
use Rattle.std.specs.List.{list_any}
use Rattle.page_states.specs.Places.{is_password_at}
use Rattle.page_states.proofs.secrets.has_password.Given as goal

-- whether one of the nodes so far is one
abbrev pub invariant-loop-node : goal.invariant-loop-node
invariant-loop-node l = l.has_one ≡ list_any is_password_at (take l.node-index l.fn.nodes)
