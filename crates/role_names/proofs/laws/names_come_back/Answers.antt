use Rattle.role_names.proofs.Tables.{number_back, name_back}
use Rattle.role_names.proofs.laws.names_come_back.Goals as goal

pub returns : goal.returns
returns c = λ number name. (number_back number name, name_back number name)
