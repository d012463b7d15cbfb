use Rattle.role_names.proofs.Tables.{new_names}
use Rattle.role_names.proofs.laws.names_are_new.Goals as goal

pub returns : goal.returns
returns c = new_names
