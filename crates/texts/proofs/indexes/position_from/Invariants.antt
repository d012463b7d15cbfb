use Rattle.std.proofs.Common.{◌≡◌, ◌+◌, length}
use Rattle.views.specs.Runs.{text_root_of, ids_after}
use Rattle.texts.proofs.GlobalIndexes.{units_before}
use Rattle.texts.proofs.indexes.position_from.Given as goal

abbrev pub invariant-loop-left : goal.invariant-loop-left
invariant-loop-left l = record {
  same : text_root_of l.run ≡ l.fn.root;
  summed : l.left + units_before l.fn.units l.fn.root l.run ≡ l.fn.index;
}

abbrev pub decreases-loop-left : goal.decreases-loop-left
decreases-loop-left l = length (ids_after l.run)
