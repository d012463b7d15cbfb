use Rattle.std.proofs.Common.{◌<◌, ◌^◌, arith}
use Rattle.fed_tree_c.proofs.RoleNumbers.{is_between, is_none, is_other}
use Rattle.fed_tree_c.proofs.numbers.other_role.Goals as goal

pub returns-then-number-lt-OTHER_ROLES : goal.returns-then-number-lt-OTHER_ROLES
returns-then-number-lt-OTHER_ROLES c = is_between c.args.number c.requires c.if-number-lt-OTHER_ROLES.true

pub returns-in-Ok : goal.returns-in-Ok
returns-in-Ok c =
    let e = c.in-Ok.ensures in
    let fits : c.in-Ok.number < 2 ^ 16 = omega (arith, e.0, e.1) in
    is_other c.args.number c.if-number-lt-OTHER_ROLES.false c.in-Ok.number e.1 fits

pub returns-in-Err : goal.returns-in-Err
returns-in-Err c = is_none c.args.number c.if-number-lt-OTHER_ROLES.false c.in-Err.ensures
