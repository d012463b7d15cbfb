use Rattle.role_names.proofs.Tables.{no_name_below}
use Rattle.role_names.proofs.laws.numbers_begin_at_256.Goals as goal

pub returns : goal.returns
returns c = no_name_below
