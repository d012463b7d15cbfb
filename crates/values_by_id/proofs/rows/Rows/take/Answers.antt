use Rattle.std.proofs.Common.{None, sym, ap, ◌∙◌}
use Rattle.values_by_id.specs.Cells.{cell_at, value_at}
use Rattle.values_by_id.proofs.Entries.{at_cell, set_at}
use Rattle.values_by_id.proofs.rows.Rows.take.Goals as goal

pub returns-clause-values : goal.returns-clause-values
returns-clause-values g c q =
    sym (at_cell c.trim.new.self q)
    ∙ ap (λ es. value_at es q) c.trim.ensures
    ∙ at_cell c.put-value.new.self q
    ∙ ap (λ rows. cell_at rows q) c.put-value.ensures.new
    ∙ set_at c.args.self.now c.args.id c.put-value.result None c.put-value.ensures.old q
