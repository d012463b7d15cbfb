use Rattle.page.proofs.TypedPages.{typing_makes_the_same_page}
use Rattle.page.proofs.laws.typing_makes_the_same_page.Goals as goal

pub returns : goal.returns
returns c = typing_makes_the_same_page
