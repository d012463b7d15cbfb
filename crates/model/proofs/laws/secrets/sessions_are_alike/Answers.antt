use Rattle.model.proofs.Examples.AlikeExamples as worked
use Rattle.model.proofs.laws.secrets.sessions_are_alike.Goals as goal

pub returns : goal.returns
returns c = worked.sessions_are_alike
