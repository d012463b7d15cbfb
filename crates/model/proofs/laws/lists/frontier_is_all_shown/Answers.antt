use Rattle.model.proofs.Lists.Shown.{shown_is}
use Rattle.model.proofs.laws.lists.frontier_is_all_shown.Goals as goal

pub returns : goal.returns
returns c = shown_is
