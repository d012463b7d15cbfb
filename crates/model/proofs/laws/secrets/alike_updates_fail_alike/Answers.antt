use Rattle.model.proofs.Alike.Merging.{fail_alike}
use Rattle.model.proofs.laws.secrets.alike_updates_fail_alike.Goals as goal

pub returns : goal.returns
returns c = fail_alike
