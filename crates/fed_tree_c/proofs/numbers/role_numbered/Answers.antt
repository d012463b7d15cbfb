use Rattle.fed_tree_c.proofs.RoleNumbers.{is_named, is_past}
use Rattle.fed_tree_c.proofs.numbers.role_numbered.Goals as goal

pub returns-in-Some : goal.returns-in-Some
returns-in-Some c =
    is_named c.named_roles.result.now c.named_roles.ensures.roles c.args.number (c.in-Some.field-0-0, c.in-Some.role) c.in-Some.ensures

pub other_role-requires : goal.other_role-requires
other_role-requires c = is_past c.named_roles.result.now c.named_roles.ensures.roles c.args.number c.in-None.ensures
