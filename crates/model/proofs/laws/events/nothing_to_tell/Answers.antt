use Rattle.model.proofs.Differences.SameWorlds.{nothing_to_tell as nothing}
use Rattle.model.proofs.laws.events.nothing_to_tell.Goals as goal

pub returns : goal.returns
returns c = nothing
