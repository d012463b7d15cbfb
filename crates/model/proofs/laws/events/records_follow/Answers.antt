use Rattle.model.proofs.Mirror.RecordsFollow.{records_follow as follow}
use Rattle.model.proofs.laws.events.records_follow.Goals as goal

pub returns : goal.returns
returns c = λ old new root ds before after h. follow old new root ds h before after
