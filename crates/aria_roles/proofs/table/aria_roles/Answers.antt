use Rattle.std.proofs.Common.{rules}
use Rattle.aria_roles.specs.AriaRoles.{aria_roles}
use Rattle.aria_roles.proofs.table.aria_roles.Goals as goal

pub returns : goal.returns
unfolding aria_roles
returns c = search rules
