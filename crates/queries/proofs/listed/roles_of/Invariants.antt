use Rattle.std.proofs.Common.{◌≡◌, take}
use Rattle.queries.specs.Near.{roles_of}
use Rattle.queries.proofs.listed.roles_of.Given as goal

abbrev pub invariant-loop-node : goal.invariant-loop-node
invariant-loop-node l = l.roles.items ≡ roles_of (take l.node-index l.fn.nodes)
