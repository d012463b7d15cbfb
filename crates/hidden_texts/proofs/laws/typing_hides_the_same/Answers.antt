use Rattle.hidden_texts.proofs.HiddenAlike.{typing_hides_the_same}
use Rattle.hidden_texts.proofs.laws.typing_hides_the_same.Goals as goal

pub returns : goal.returns
returns c = typing_hides_the_same
