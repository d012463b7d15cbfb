use Rattle.page_states.proofs.PlacesAlike.{typing_looks_the_same}
use Rattle.page_states.proofs.laws.typing_looks_the_same.Goals as goal

pub returns : goal.returns
returns c = typing_looks_the_same
