use Rattle.page_states.proofs.SaidAlike.{typing_says_the_same}
use Rattle.page_states.proofs.secrets.typing_says_the_same.Goals as goal

pub returns : goal.returns
returns c = typing_says_the_same
