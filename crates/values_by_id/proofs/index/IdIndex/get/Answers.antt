use Rattle.std.proofs.Common.{sym, ◌∙◌}
use Rattle.values_by_id.proofs.Entries.{at_some, at_none}
use Rattle.values_by_id.proofs.index.IdIndex.get.Goals as goal

pub returns-in-Some : goal.returns-in-Some
returns-in-Some g c = rw (← c.self.view_is) (sym (at_some c.self.inside.rows c.self.inside.others c.args.id.now c.in-Some.value.now (sym c.in-Some.ensures)))

pub returns-in-None : goal.returns-in-None
returns-in-None g c = rw (← c.self.view_is) (c.get-in-None.ensures ∙ sym (at_none c.self.inside.rows c.self.inside.others c.args.id.now (sym c.in-None.ensures)))
