use Rattle.model.proofs.Differences.Reasons.{has_reason, is_told_for}
use Rattle.model.proofs.laws.events.each_has_a_reason.Goals as goal

pub returns : goal.returns
returns c = λ old new root ds h d. (has_reason old new root ds h d, is_told_for old new root ds h d)
