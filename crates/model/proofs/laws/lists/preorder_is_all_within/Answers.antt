use Rattle.model.proofs.Lists.Within.{in_preorder}
use Rattle.model.proofs.laws.lists.preorder_is_all_within.Goals as goal

pub returns : goal.returns
returns c = in_preorder
