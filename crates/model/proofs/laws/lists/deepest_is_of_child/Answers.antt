use Rattle.model.proofs.Lists.ListFacts.{deepest_first_is, deepest_last_is}
use Rattle.model.proofs.laws.lists.deepest_is_of_child.Goals as goal

pub returns : goal.returns
returns c w formed id = (deepest_first_is w formed id, deepest_last_is w formed id)
