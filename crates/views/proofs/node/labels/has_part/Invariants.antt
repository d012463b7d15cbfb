use Rattle.std.proofs.Common.{◌≡◌, length}
use Rattle.views.specs.LabelWalks.{labels_left}
use Rattle.views.specs.LabelTexts.{parts_of, has_parts}
use Rattle.views.proofs.node.labels.has_part.Given as goal

-- those so far give none
abbrev pub invariant-loop-node : goal.invariant-loop-node
invariant-loop-node l = has_parts (parts_of (labels_left l.nodes)) ≡ has_parts (parts_of (labels_left l.fn.labels))

abbrev pub decreases-loop-node : goal.decreases-loop-node
decreases-loop-node l = length (labels_left l.nodes)
