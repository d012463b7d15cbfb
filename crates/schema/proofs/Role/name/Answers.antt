use Rattle.std.proofs.Common.{rules, ◌<◌}
use Rattle.schema.specs.Roles.{role_number}
use Rattle.schema.proofs.RoleTable.{table_name}
use Rattle.schema.proofs.Role.name.Goals as goal

pub returns : goal.returns
returns c =
    let below : role_number c.args.self < 72 = search rules in
    table_name c.named_roles.result.now _ _ c.args.self c.named_roles.ensures.names c.named_roles.ensures.roles c.number.ensures below
