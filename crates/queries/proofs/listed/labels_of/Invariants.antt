use Rattle.std.proofs.Common.{◌≡◌, map, take}
use Rattle.std.specs.Prelude.{Some, string_bytes}
use Rattle.queries.specs.Near.{labels_of}
use Rattle.queries.proofs.listed.labels_of.Given as goal

abbrev pub invariant-loop-node : goal.invariant-loop-node
invariant-loop-node l = map string_bytes l.labels.items ≡ labels_of (Some l.fn.role) (take l.node-index l.fn.nodes)
