use Rattle.std.proofs.Common.{refl}
use Rattle.model.specs.Points.{position_at_point}
use Rattle.model.proofs.laws.texts.turned.Goals as goal

pub returns : goal.returns
unfolding position_at_point
returns c = record { box = refl; not_in_it = refl; ahead = refl }
