use Rattle.fed_tree.proofs.Focusing.{active_found}
use Rattle.fed_tree.proofs.computed.active_id.Goals as goal

pub returns : goal.returns
returns c = active_found _ _ c.id.result _ c.in_ok-found.ensures c.id.ensures
