use Rattle.hidden_texts.proofs.ShownAlike.{typing_shows_the_same}
use Rattle.hidden_texts.proofs.laws.typing_shows_the_same.Goals as goal

pub returns : goal.returns
returns c = typing_shows_the_same
