use Rattle.phrases.proofs.Typed.{typed_is_said}
use Rattle.phrases.proofs.laws.typed_is_said.Goals as goal

pub returns : goal.returns
returns c = typed_is_said
