use Rattle.model.proofs.Mirror.RecordsGoOn.{records_go_on_over_run as lemma}
use Rattle.model.proofs.laws.events.records_go_on_over_run.Goals as goal

pub returns : goal.returns
returns c = lemma
