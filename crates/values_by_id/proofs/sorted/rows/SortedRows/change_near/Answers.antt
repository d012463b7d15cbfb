use Rattle.std.proofs.Common.{rules, sym, ap, subst, ◌∙◌}
use Rattle.std.specs.BTreeMap.{is_at}
use Rattle.std.specs.Map.{set_value}
use Rattle.model.specs.FullIds.{full_cmp}
use Rattle.values_by_id.specs.Rows.{Ascends, IsPlace}
use Rattle.values_by_id.proofs.Changed.{set_here, set_elsewhere, set_ascends}
use Rattle.values_by_id.proofs.sorted.rows.SortedRows.change_near.Goals as goal

pub invariant_of-self : goal.invariant_of-self
invariant_of-self g c =
    let is = set_here c.self.inside.items.items c.self.invariant c.args.id c.args.value c.place-index.result c.index.result.now (search rules) (search rules) (subst (λ es. IsPlace es c.args.id c.place-index.result) c.deref.ensures.value c.place-index.ensures.place) (search rules) in
    subst Ascends is (set_ascends c.self.inside.items.items c.args.id c.args.value c.self.invariant)

pub returns-then-eq : goal.returns-then-eq
returns-then-eq g c =
    let is = set_here c.self.inside.items.items c.self.invariant c.args.id c.args.value c.place-index.result c.index.result.now (search rules) (search rules) (subst (λ es. IsPlace es c.args.id c.place-index.result) c.deref.ensures.value c.place-index.ensures.place) (search rules) in
    sym is ∙ ap (λ es. set_value (is_at (full_cmp c.args.id)) es c.args.value) c.self.view_is

pub returns-else-eq : goal.returns-else-eq
returns-else-eq g c =
    let is = set_elsewhere c.self.inside.items.items c.self.invariant c.args.id c.args.value c.place-index.result c.index.result.now (search rules) (search rules) (subst (λ es. IsPlace es c.args.id c.place-index.result) c.deref.ensures.value c.place-index.ensures.place) (search rules) in
    sym c.self.view_is ∙ sym is ∙ ap (λ es. set_value (is_at (full_cmp c.args.id)) es c.args.value) c.self.view_is
