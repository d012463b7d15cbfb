use Rattle.std.proofs.Common.{rules}
use Rattle.page_states.specs.Boxes.{higher}
use Rattle.page_states.proofs.boxes.higher.Goals as goal

pub returns : goal.returns
unfolding higher
returns c = search rules
