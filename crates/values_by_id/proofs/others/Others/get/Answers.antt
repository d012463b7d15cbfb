use Rattle.std.proofs.Common.{sym, ap, ◌∙◌}
use Rattle.values_by_id.specs.Cells.{value_at}
use Rattle.values_by_id.specs.Found.{id_at}
use Rattle.values_by_id.proofs.Led.{read_value, apart_when_found}
use Rattle.values_by_id.proofs.others.Others.get.Goals as goal

pub returns : goal.returns
returns g c =
    let es = c.self.inside.entries.items in
    let own = ap (λ l. id_at l c.in_ok-number.number) c.self.view_is ∙ c.in_ok-number.ensures.there in
    sym (ap (λ l. value_at l c.args.id) (sym c.self.view_is) ∙ read_value es c.in_ok-number.number c.index.result.now c.args.id c.index.ensures own (apart_when_found c.self.inside.trie es c.self.invariant))
