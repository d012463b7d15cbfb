use Rattle.page_states.proofs.TypedStates.{typing_writes_the_same}
use Rattle.page_states.proofs.laws.typing_writes_the_same.Goals as goal

pub returns : goal.returns
returns c = typing_writes_the_same
