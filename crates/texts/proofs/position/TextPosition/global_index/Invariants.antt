use Rattle.std.proofs.Common.{◌≡◌, ◌+◌, length}
use Rattle.model.specs.Moves.{global_index}
use Rattle.views.specs.Runs.{text_root_of, ids_before}
use Rattle.texts.specs.Positions.{root_at, position_text, flat_position}
use Rattle.texts.specs.GlobalIndexes.{unit_len}
use Rattle.texts.proofs.GlobalIndexes.{units_before}
use Rattle.texts.proofs.position.TextPosition.global_index.Given as goal

abbrev pub invariant-loop-previous : goal.invariant-loop-previous
invariant-loop-previous l = record {
  same : text_root_of l.run ≡ root_at l.fn.self;
  summed : l.before + units_before l.fn.units (root_at l.fn.self) l.run ≡ global_index (unit_len l.fn.units) (position_text l.fn.self) (flat_position l.fn.self);
}

abbrev pub decreases-loop-previous : goal.decreases-loop-previous
decreases-loop-previous l = length (ids_before l.run)
