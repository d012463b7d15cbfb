use Rattle.std.proofs.Common.{◌≡◌, length}
use Rattle.std.specs.Prelude.{◌||◌}
use Rattle.std.specs.List.{join_with_byte}
use Rattle.views.specs.LabelWalks.{labels_left}
use Rattle.views.specs.LabelTexts.{parts_of, rest_of_label, has_parts}
use Rattle.views.specs.ValueCalls.{calls_of, joined_calls, rest_of_calls}
use Rattle.views.specs.Writes.{IsUnderWay}
use Rattle.views.proofs.Calling.{IsCalledUpTo}
use Rattle.views.proofs.node.labels.write_parts.Given as goal

-- the parts so far are written
abbrev pub invariant-loop-node : goal.invariant-loop-node
invariant-loop-node g l = record {
  way : IsUnderWay g.W.TextWrite.received g.W.TextWrite.faults (join_with_byte 32 (parts_of (labels_left l.fn.labels))) (rest_of_label l.is_later (parts_of (labels_left l.nodes))) l.fn.writer l.writer;
  calls : IsCalledUpTo g.W.TextWrite.steps (joined_calls (calls_of (labels_left l.fn.labels))) (rest_of_calls l.is_later (calls_of (labels_left l.nodes))) l.fn.writer l.writer;
  there : (l.is_later || has_parts (parts_of (labels_left l.nodes))) ≡ has_parts (parts_of (labels_left l.fn.labels));
}

abbrev pub decreases-loop-node : goal.decreases-loop-node
decreases-loop-node g l = length (labels_left l.nodes)
