use Rattle.model.proofs.Work.WorkIsOne.{work_unique}
use Rattle.model.proofs.laws.events.work_is_one.Goals as goal

pub returns : goal.returns
returns c = work_unique
