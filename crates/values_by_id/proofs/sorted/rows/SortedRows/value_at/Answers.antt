use Rattle.std.proofs.Common.{rules, sym, ap, subst, ◌∙◌}
use Rattle.values_by_id.specs.Rows.{IsPlace, row_at}
use Rattle.values_by_id.proofs.Places.{found_here, not_here}
use Rattle.values_by_id.proofs.sorted.rows.SortedRows.value_at.Goals as goal

pub returns-then-eq-clause-placed : goal.returns-then-eq-clause-placed
returns-then-eq-clause-placed g c place =
    let some = found_here c.self.inside.items.items c.self.invariant c.args.id c.args.index c.index.result.now (search rules) (search rules) (search rules) in
    sym some ∙ ap (λ es. row_at es c.args.id) c.self.view_is

pub returns-clause-placed : goal.returns-clause-placed
returns-clause-placed g c place =
    let here = subst (λ es. IsPlace es c.args.id c.args.index) (sym c.self.view_is) place in
    let none = not_here c.self.inside.items.items c.self.invariant c.args.id c.args.index c.index.result.now (search rules) (search rules) here (search rules) in
    sym none ∙ ap (λ es. row_at es c.args.id) c.self.view_is
