use Rattle.model.proofs.Run.Repeated.{repeat_tells_root as tells}
use Rattle.model.proofs.laws.events.repeat_tells_root.Goals as goal

pub returns : goal.returns
returns c = tells
