use Rattle.role_names.proofs.Tables.{words_there}
use Rattle.role_names.proofs.laws.words_are_there.Goals as goal

pub returns : goal.returns
returns c = words_there
