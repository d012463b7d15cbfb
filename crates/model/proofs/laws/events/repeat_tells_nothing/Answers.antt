use Rattle.model.proofs.Run.Repeated.{repeat_tells_nothing as tells}
use Rattle.model.proofs.laws.events.repeat_tells_nothing.Goals as goal

pub returns : goal.returns
returns c = tells
