use Rattle.std.proofs.Common.{rules}
use Rattle.role_names.specs.OtherRoles.{other_roles}
use Rattle.role_names.proofs.table.other_roles.Goals as goal

pub returns : goal.returns
unfolding other_roles
returns c = search rules
