use Rattle.page.proofs.TypedRuns.{typing_writes_the_same_page}
use Rattle.page.proofs.laws.typing_writes_the_same_page.Goals as goal

pub returns : goal.returns
returns c = typing_writes_the_same_page
