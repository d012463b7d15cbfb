use Rattle.std.proofs.Common.{◌≡◌, ◌≤◌}
use Rattle.model.specs.Points.{character_at}
use Rattle.texts.specs.Measures.{measures}
use Rattle.texts.proofs.Along.{told, last_in}
use Rattle.texts.proofs.metrics.Metrics.character_at.Given as goal

abbrev pub invariant-loop-left : goal.invariant-loop-left
invariant-loop-left l = record {
  within : l.left ≤ told (measures l.fn.self) l.fn.distance;
  sought : character_at (measures l.fn.self) l.fn.distance ≡ last_in (measures l.fn.self) l.fn.distance l.left;
}

abbrev pub decreases-loop-left : goal.decreases-loop-left
decreases-loop-left l = l.left
