use Rattle.std.proofs.Common.{sym, ◌∙◌}
use Rattle.values_by_id.proofs.Entries.{at_some}
use Rattle.values_by_id.proofs.index.IdIndex.get_in_row.Goals as goal

pub returns : goal.returns
returns g c value is = rw (← c.self.view_is) (at_some c.self.inside.rows c.self.inside.others c.args.id.now value (sym c.get.ensures ∙ is))
