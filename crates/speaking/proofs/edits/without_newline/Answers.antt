use Rattle.std.proofs.Common.{inr, refl}
use Rattle.speaking.proofs.edits.without_newline.Goals as goal

pub returns-in-None : goal.returns-in-None
unfolding lib.Utf8.encode
returns-in-None c = inr (refl, c.in-None.ensures.cases)
