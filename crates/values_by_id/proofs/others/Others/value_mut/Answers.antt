use Rattle.std.proofs.Common.{refl, sym, ap, ◌∙◌}
use Rattle.std.specs.BTreeMap.{is_at}
use Rattle.std.specs.Map.{set_value}
use Rattle.model.specs.FullIds.{full_cmp}
use Rattle.values_by_id.specs.Cells.{value_at}
use Rattle.values_by_id.specs.Found.{id_at}
use Rattle.values_by_id.proofs.Led.{apart_when_found, read_value, written, found_written}
use Rattle.values_by_id.proofs.others.Others.value_mut.Goals as goal

pub invariant_of-self-lent : goal.invariant_of-self-lent
invariant_of-self-lent g c w =
    let own = ap (λ l. id_at l c.args.number) c.self.view_is ∙ c.requires in
    found_written c.self.inside.entries.items c.args.number c.index_mut-entry.result.now c.args.id c.index_mut-entry.ensures.value own c.self.inside.trie c.self.invariant w

pub returns : goal.returns
returns g c =
    let es = c.self.inside.entries.items in
    let own = ap (λ l. id_at l c.args.number) c.self.view_is ∙ c.requires in
    let apart = apart_when_found c.self.inside.trie es c.self.invariant in (
      (refl, (λ w. written es c.args.number c.index_mut-entry.result.now c.args.id c.index_mut-entry.ensures.value own apart w ∙ ap (λ l. set_value (is_at (full_cmp c.args.id)) l w) c.self.view_is)),
      record {
        lends = tt;
        value = ap (λ l. value_at l c.args.id) (sym c.self.view_is) ∙ read_value es c.args.number c.index_mut-entry.result.now c.args.id c.index_mut-entry.ensures.value own apart;
      },
    )
