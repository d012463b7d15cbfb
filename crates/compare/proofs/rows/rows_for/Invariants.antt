use Rattle.std.proofs.Common.{◌≡◌, map, take}
use Rattle.compare.specs.Compared.{text_of}
use Rattle.compare.specs.Rows.{row_at}
use Rattle.compare.proofs.rows.rows_for.Given as goal

-- the rows of the nodes so far
abbrev pub invariant-loop-node : goal.invariant-loop-node
invariant-loop-node l = map text_of l.rows.items ≡ map row_at (take l.node-index l.nodes)
