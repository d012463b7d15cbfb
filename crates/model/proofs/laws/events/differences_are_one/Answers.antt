use Rattle.model.proofs.Differences.DifferencesAreOne.{differences_unique}
use Rattle.model.proofs.laws.events.differences_are_one.Goals as goal

pub returns : goal.returns
returns c = differences_unique
