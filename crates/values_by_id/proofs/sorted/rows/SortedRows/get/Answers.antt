use Rattle.std.proofs.Common.{rules, sym, ap, ◌∙◌}
use Rattle.values_by_id.specs.Rows.{row_at}
use Rattle.values_by_id.proofs.Places.{found_here, not_here}
use Rattle.values_by_id.proofs.sorted.rows.SortedRows.get.Goals as goal

pub returns-then-eq-clause-value : goal.returns-then-eq-clause-value
returns-then-eq-clause-value g c =
    let some = found_here c.self.inside.items.items c.self.invariant c.args.id.now c.place-index.result c.index-item.result.now (search rules) (search rules) (search rules) in
    sym some ∙ ap (λ es. row_at es c.args.id.now) c.self.view_is

pub returns-clause-value : goal.returns-clause-value
returns-clause-value g c =
    let none = not_here c.self.inside.items.items c.self.invariant c.args.id.now c.place-index.result c.index-item.result.now (search rules) (search rules) (search rules) (search rules) in
    sym none ∙ ap (λ es. row_at es c.args.id.now) c.self.view_is
