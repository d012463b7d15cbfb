use Rattle.std.proofs.Common.{◌≡◌, map}
use Rattle.std.specs.Prelude.{take}
use Rattle.fed_tree_c.specs.Records.{id_of}
use Rattle.fed_tree_c.proofs.buffers.ids_of.Given as goal

abbrev pub invariant-loop-id : goal.invariant-loop-id
invariant-loop-id l = l.seen.items ≡ map id_of (take l.id-index l.fn.ids)
