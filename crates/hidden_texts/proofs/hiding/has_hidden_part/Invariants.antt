use Rattle.std.proofs.Common.{◌≡◌, length}
use Rattle.std.specs.Prelude.{All}
use Rattle.std.specs.List.{list_any}
use Rattle.views.specs.LabelWalks.{labels_left}
use Rattle.hidden_texts.specs.Known.{IsKnownAt}
use Rattle.hidden_texts.specs.Walked.{hides_part_of}
use Rattle.hidden_texts.proofs.hiding.has_hidden_part.Given as goal

-- none so far hides its part, and what is known of the others is right
abbrev pub invariant-loop-node : goal.invariant-loop-node
invariant-loop-node l = record {
  rest : list_any hides_part_of (labels_left l.nodes) ≡ list_any hides_part_of (labels_left l.fn.labels);
  known : All (IsKnownAt l.known) (labels_left l.nodes);
}

abbrev pub decreases-loop-node : goal.decreases-loop-node
decreases-loop-node l = length (labels_left l.nodes)
