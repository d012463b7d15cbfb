use Rattle.model.proofs.Mixtures as proved
use Rattle.model.proofs.laws.mixtures.three_are_taken.Goals as goal

pub returns : goal.returns
returns c = proved.three_are_taken
