use Rattle.std.proofs.Common.{sym, ◌∙◌}
use Rattle.std.proofs.lemmas.Option.{none-some}
use Rattle.read.proofs.given.tree_given.Goals as goal

pub returns-in-Some : goal.returns-in-Some
returns-in-Some c = (c.tree_named.ensures.exact c.in-Some.tree).0 c.in-Some.is

pub returns-in-None : goal.returns-in-None
returns-in-None c = ((λ tree says. none-some tree (sym c.in-None.is ∙ (c.tree_named.ensures.exact tree).1 says)), c.no_tree.ensures)
