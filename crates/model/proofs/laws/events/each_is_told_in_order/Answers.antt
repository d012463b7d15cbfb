use Rattle.model.proofs.Differences.Reasons.{in_order}
use Rattle.model.proofs.laws.events.each_is_told_in_order.Goals as goal

pub returns : goal.returns
returns c = in_order
