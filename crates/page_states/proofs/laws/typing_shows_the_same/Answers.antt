use Rattle.page_states.proofs.StatesAlike.{typing_shows_the_same}
use Rattle.page_states.proofs.laws.typing_shows_the_same.Goals as goal

pub returns : goal.returns
returns c = typing_shows_the_same
