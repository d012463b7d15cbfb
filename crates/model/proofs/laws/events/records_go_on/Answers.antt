use Rattle.model.proofs.Mirror.RecordsGoOn.{records_go_on as lemma}
use Rattle.model.proofs.laws.events.records_go_on.Goals as goal

pub returns : goal.returns
returns c = lemma
