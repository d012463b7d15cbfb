use Rattle.std.proofs.Common.{◌<◌, length, Some, arith, refl, ap, subst, sym, ◌∙◌}
use Rattle.std.specs.Prelude.{slice_set}
use Rattle.std.specs.Option.{option_map}
use Rattle.std.proofs.lemmas.Option.{slice_get_read}
use Rattle.tree_store.specs.CellLists.{slot_seen, cell_with, placed_record}
use Rattle.tree_store.proofs.CellLists.{AreIn, slot_within, slot_is, in_written, shown_filled, shown_changed, entry_there, not_free}
use Rattle.tree_store.proofs.cell_list.CellList.put.Goals as goal

pub index_mut-cell-requires : goal.index_mut-cell-requires
index_mut-cell-requires c = omega (arith, slot_within c.self.inside c.args.self.now c.self.view_is c.args.number c.requires.slot, c.self.inside.cells.ok.0)

pub unreachable-requires : goal.unreachable-requires
unreachable-requires c =
    let a = c.self.inside in
    let n = c.args.number in
    let x = c.index_mut-cell.result.now in
    let at = slice_get_read a.cells.items (length a.cells.items) n x refl (slot_within a c.args.self.now c.self.view_is n c.requires.slot) c.index_mut-cell.ensures.value in
    not_free _ c.requires.slot (slot_is a c.args.self.now c.self.view_is n x at ∙ ap (slot_seen _ x.place) c.in-Free.is)

pub put_listed-requires-clause-number : goal.put_listed-requires-clause-number
put_listed-requires-clause-number c =
    let a = c.self.inside in
    let n = c.args.number in
    let x = c.index_mut-cell.result.now in
    let at = slice_get_read a.cells.items (length a.cells.items) n x refl (slot_within a c.args.self.now c.self.view_is n c.requires.slot) c.index_mut-cell.ensures.value in
    c.self.invariant n x c.in-Listed.is_filled at c.in-Listed.is

pub invariant_of-self : goal.invariant_of-self
invariant_of-self c =
    let a = c.self.inside in
    let n = c.args.number in
    let x = c.index_mut-cell.result.now in
    let low = slot_within a c.args.self.now c.self.view_is n c.requires.slot in
    let at = slice_get_read a.cells.items (length a.cells.items) n x refl low c.index_mut-cell.ensures.value in
    in_written a.cells.items (length c.put_listed.new.listed.items) n _ low
    (λ b is. subst (λ m. n < m) (sym c.put_listed.ensures.same) (c.self.invariant n x c.in-Listed.is_filled at c.in-Listed.is))
    (subst (AreIn a.cells.items) (sym c.put_listed.ensures.same) c.self.invariant)

pub invariant_of-self-in-Boxed : goal.invariant_of-self-in-Boxed
invariant_of-self-in-Boxed c =
    let a = c.self.inside in
    in_written a.cells.items (length a.listed.items) c.args.number _ (slot_within a c.args.self.now c.self.view_is c.args.number c.requires.slot) (λ b is. cc) c.self.invariant

pub returns-in-Listed-clause-cell : goal.returns-in-Listed-clause-cell
returns-in-Listed-clause-cell c w shown =
    let a = c.self.inside in
    let v = c.args.self.now in
    let n = c.args.number in
    let x = c.index_mut-cell.result.now in
    let at = slice_get_read a.cells.items (length a.cells.items) n x refl (slot_within a v c.self.view_is n c.requires.slot) c.index_mut-cell.ensures.value in
    let sent = entry_there c.args.nodes.now.items c.args.entry c.requires.entry in
    shown_filled a v c.self.view_is _ n x _ sent.0 at (c.put_listed.ensures.listed sent.0 sent.1) (c.self.invariant n x c.in-Listed.is_filled at c.in-Listed.is) refl refl w shown
    ∙ ap (λ o. slice_set v.cells n (cell_with w.id (Some (option_map (placed_record c.args.place) o)))) (sym sent.1)

pub returns-in-Boxed-clause-cell : goal.returns-in-Boxed-clause-cell
returns-in-Boxed-clause-cell c w shown =
    let a = c.self.inside in
    let v = c.args.self.now in
    let n = c.args.number in
    let x = c.index_mut-cell.result.now in
    let at = slice_get_read a.cells.items (length a.cells.items) n x refl (slot_within a v c.self.view_is n c.requires.slot) c.index_mut-cell.ensures.value in
    shown_changed a v c.self.view_is n x _ _ at refl (ap (λ o. Some (option_map (placed_record c.args.place) o)) c.put_in.ensures.slot) w shown
