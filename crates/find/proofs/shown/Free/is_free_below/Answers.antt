use Rattle.std.proofs.Common.{sym, ◌∙◌}
use Rattle.find.proofs.shown.Free.is_free_below.Goals as goal

pub returns : goal.returns
returns c = λ free is. c.has_parent_of.ensures free is (sym c.restricts.ensures ∙ c.if-restricts.false)
