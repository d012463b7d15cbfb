use Rattle.std.proofs.Common.{◌≡◌, map}
use Rattle.std.specs.Prelude.{take}
use Rattle.fed_tree_c.specs.Updates.{node_numbered}
use Rattle.fed_tree_c.proofs.values.node_ids.Given as goal

abbrev pub invariant-loop-number : goal.invariant-loop-number
invariant-loop-number l = l.ids.items ≡ map node_numbered (take l.number-index l.fn.numbers)
