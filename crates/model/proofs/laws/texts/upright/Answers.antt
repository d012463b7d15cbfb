use Rattle.std.proofs.Common.{refl}
use Rattle.model.specs.Points.{position_at_point}
use Rattle.model.proofs.laws.texts.upright.Goals as goal

pub returns : goal.returns
unfolding position_at_point
returns c = record { downwards = refl; upwards = refl; first = refl; second = refl; last = refl; below_it = refl; above_it = refl }
