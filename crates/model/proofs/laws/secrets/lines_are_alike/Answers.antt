use Rattle.model.proofs.Examples.AlikeExamples as worked
use Rattle.model.proofs.laws.secrets.lines_are_alike.Goals as goal

pub returns : goal.returns
returns c = worked.lines_are_alike
