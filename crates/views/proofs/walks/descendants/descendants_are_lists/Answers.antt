use Rattle.views.proofs.Descending.{shown_below, all_included}
use Rattle.views.proofs.walks.descendants.descendants_are_lists.Goals as goal

pub returns-clause-filtered : goal.returns-clause-filtered
returns-clause-filtered c = λ f w formed. shown_below f w formed

pub returns-clause-all : goal.returns-clause-all
returns-clause-all c = all_included
