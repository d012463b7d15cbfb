use Rattle.std.proofs.Common.{◌≡◌, ◌+◌, length}
use Rattle.model.specs.Moves.{to_line_index}
use Rattle.views.specs.Runs.{text_root_of, ids_before}
use Rattle.texts.specs.Positions.{root_at, position_text, flat_position}
use Rattle.texts.proofs.LineCounts.{lines_before}
use Rattle.texts.proofs.position.TextPosition.to_line_index.Given as goal

abbrev pub invariant-loop-previous : goal.invariant-loop-previous
invariant-loop-previous l = record {
  same : text_root_of l.run ≡ root_at l.fn.self;
  counted : l.lines + lines_before l.fn.self l.run ≡ to_line_index (position_text l.fn.self) (flat_position l.fn.self);
}

abbrev pub decreases-loop-previous : goal.decreases-loop-previous
decreases-loop-previous l = length (ids_before l.run)
