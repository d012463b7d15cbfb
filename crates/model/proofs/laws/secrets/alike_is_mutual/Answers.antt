use Rattle.model.proofs.Alike.Tellings.{swapped}
use Rattle.model.proofs.laws.secrets.alike_is_mutual.Goals as goal

pub returns : goal.returns
returns c = swapped
