use Rattle.std.proofs.Common.{rules}
use Rattle.page_states.specs.Boxes.{lower}
use Rattle.page_states.proofs.boxes.lower.Goals as goal

pub returns : goal.returns
unfolding lower
returns c = search rules
