use Rattle.model.proofs.Mirror.RecordsGoOn.{records_exist as lemma}
use Rattle.model.proofs.laws.events.records_are_there.Goals as goal

pub returns : goal.returns
returns c = lemma
