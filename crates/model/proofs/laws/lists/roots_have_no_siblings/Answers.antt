use Rattle.model.proofs.Lists.StateLists.{root_alone}
use Rattle.model.proofs.laws.lists.roots_have_no_siblings.Goals as goal

pub returns : goal.returns
returns c w s = root_alone s
