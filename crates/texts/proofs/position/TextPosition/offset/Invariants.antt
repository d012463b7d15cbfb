use Rattle.std.proofs.Common.{◌≡◌, ◌+◌, length}
use Rattle.model.specs.FlatText.{start_of, offset}
use Rattle.views.specs.Runs.{text_root_of, ids_before}
use Rattle.text_boundaries.specs.RunNumbers.{number_in}
use Rattle.texts.specs.Positions.{root_at, position_text, flat_position}
use Rattle.texts.proofs.position.TextPosition.offset.Given as goal

abbrev pub invariant-loop-previous : goal.invariant-loop-previous
invariant-loop-previous l = record {
  same : text_root_of l.run ≡ root_at l.fn.self;
  summed : l.before + start_of (position_text l.fn.self) (number_in l.run) ≡ offset (position_text l.fn.self) (flat_position l.fn.self);
}

abbrev pub decreases-loop-previous : goal.decreases-loop-previous
decreases-loop-previous l = length (ids_before l.run)
