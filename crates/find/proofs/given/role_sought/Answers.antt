use Rattle.std.proofs.Common.{sym, ◌∙◌}
use Rattle.role_names.specs.Names.{number_named}
use Rattle.find.proofs.SoughtRoles.{sought_by_name, sought_as_in_script}
use Rattle.find.proofs.given.role_sought.Goals as goal

pub returns-in-Some : goal.returns-in-Some
returns-in-Some c = λ role. sought_by_name (number_named c.args.word.now) c.args.word.now c.in-Some.role role (sym c.in-Some.is ∙ c.other_role_named.ensures)

pub returns-in-None : goal.returns-in-None
returns-in-None c =
    λ role. sought_as_in_script (number_named c.args.word.now) c.args.word.now c.role_named.result role (sym c.in-None.is ∙ c.other_role_named.ensures) (c.role_named.ensures.exact role)
