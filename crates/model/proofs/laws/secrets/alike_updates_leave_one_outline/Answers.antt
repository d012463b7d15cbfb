use Rattle.model.proofs.Alike.OneOutline.{one_outline}
use Rattle.model.proofs.laws.secrets.alike_updates_leave_one_outline.Goals as goal

pub returns : goal.returns
returns c = one_outline
