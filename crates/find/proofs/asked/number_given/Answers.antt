use Rattle.std.proofs.Common.{sym, ◌∙◌}
use Rattle.std.proofs.lemmas.Option.{none-some}
use Rattle.find.proofs.asked.number_given.Goals as goal

pub returns-in-Some : goal.returns-in-Some
returns-in-Some c = (c.number.ensures.exact c.in-Some.number).0 c.in-Some.is

pub returns-in-None : goal.returns-in-None
returns-in-None c = ((λ n says. none-some n (sym c.in-None.is ∙ (c.number.ensures.exact n).1 says)), c.unknown_word.ensures)
