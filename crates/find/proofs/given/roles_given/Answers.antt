use Rattle.std.proofs.Common.{sym, ◌∙◌}
use Rattle.std.proofs.lemmas.Option.{none-some}
use Rattle.find.proofs.given.roles_given.Goals as goal

pub returns-in-Some : goal.returns-in-Some
returns-in-Some c = (c.role_sought.ensures c.in-Some.role).0 c.in-Some.is

pub aria_given-requires : goal.aria_given-requires
aria_given-requires c = λ role is. none-some role (sym c.in-None.is ∙ (c.role_sought.ensures role).1 is)
