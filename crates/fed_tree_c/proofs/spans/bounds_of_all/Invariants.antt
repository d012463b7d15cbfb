use Rattle.std.proofs.Common.{◌≡◌, map}
use Rattle.std.specs.Prelude.{take}
use Rattle.fed_tree_c.specs.Records.{bounds_of}
use Rattle.fed_tree_c.proofs.spans.bounds_of_all.Given as goal

abbrev pub invariant-loop-shown : goal.invariant-loop-shown
invariant-loop-shown l = l.seen.items ≡ map bounds_of (take l.shown-index l.fn.boxes)
