use Rattle.model.proofs.Mixtures as proved
use Rattle.model.proofs.laws.mixtures.mixtures_are_taken.Goals as goal

pub returns : goal.returns
returns g c = proved.mixtures_are_taken _ _ _
