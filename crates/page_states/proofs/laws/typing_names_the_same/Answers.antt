use Rattle.page_states.proofs.TypedEvents.{typing_names_the_same}
use Rattle.page_states.proofs.laws.typing_names_the_same.Goals as goal

pub returns : goal.returns
returns c = typing_names_the_same
