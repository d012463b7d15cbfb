use Rattle.model.proofs.Mirror.RecordsAreOne.{records_unique}
use Rattle.model.proofs.laws.events.records_are_one.Goals as goal

pub returns : goal.returns
returns c = records_unique
