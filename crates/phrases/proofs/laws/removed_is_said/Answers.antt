use Rattle.phrases.proofs.Typed.{removed_is_said}
use Rattle.phrases.proofs.laws.removed_is_said.Goals as goal

pub returns : goal.returns
returns c = removed_is_said
