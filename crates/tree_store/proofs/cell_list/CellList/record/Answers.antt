use Rattle.std.proofs.Common.{rules, ◌≡◌, Some, None, sym, ap, ◌∙◌}
use Rattle.std.specs.Prelude.{slice_get, option_map}
use Rattle.tree_store.specs.Cells.{record_in}
use Rattle.tree_store.specs.CellLists.{record_kept, placed_record, node_seen}
use Rattle.tree_store.proofs.CellLists.{slot_none, slot_is, get_at, none_at, record_seen, data_of}
use Rattle.tree_store.proofs.cell_list.CellList.record.Goals as goal

pub returns-in_err-cell : goal.returns-in_err-cell
returns-in_err-cell c =
    let none = none_at c.deref.result.now c.self.inside.cells.items c.args.number c.deref.ensures.value c.in_err-cell.ensures.lookup.0 in
    ap (option_map record_kept) c.from_residual.ensures ∙ sym (ap record_in (slot_none c.self.inside c.args.self.now c.self.view_is c.args.number none))

pub returns-in_err-node : goal.returns-in_err-node
returns-in_err-node c =
    let a = c.self.inside in
    let n = c.args.number in
    let x = c.in_ok-cell.cell.now in
    let at = get_at c.deref.result.now a.cells.items n x c.deref.ensures.value c.in_ok-cell.ensures.lookup.0 c.in_ok-cell.ensures.lookup.1 in
    let none : node_seen (slice_get (data_of a) n) x.slot ≡ None = search rules in
    ap (option_map record_kept) c.from_residual-in_err-node.ensures
    ∙ sym (ap record_in (slot_is a c.args.self.now c.self.view_is n x at) ∙ record_seen (slice_get (data_of a) n) x.place x.slot ∙ ap (option_map (placed_record x.place)) none)

pub returns : goal.returns
returns c =
    let a = c.self.inside in
    let n = c.args.number in
    let x = c.in_ok-cell.cell.now in
    let at = get_at c.deref.result.now a.cells.items n x c.deref.ensures.value c.in_ok-cell.ensures.lookup.0 c.in_ok-cell.ensures.lookup.1 in
    let some : node_seen (slice_get (data_of a) n) x.slot ≡ Some c.in_ok-node.node.now = search rules in
    sym (ap record_in (slot_is a c.args.self.now c.self.view_is n x at) ∙ record_seen (slice_get (data_of a) n) x.place x.slot ∙ ap (option_map (placed_record x.place)) some)
