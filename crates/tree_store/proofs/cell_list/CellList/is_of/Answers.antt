use Rattle.std.proofs.Common.{rules, ◌≡◌}
use Rattle.std.specs.Prelude.{slice_get}
use Rattle.tree_store.specs.CellLists.{seen, slot_seen}
use Rattle.tree_store.proofs.CellLists.{read, get_at, some_by, data_of}
use Rattle.tree_store.proofs.cell_list.CellList.is_of.Goals as goal

pub returns-then-is_same : goal.returns-then-is_same
returns-then-is_same c t =
    let a = c.self.inside in
    let x = c.in-Some.cell.now in
    let d = slice_get (data_of a) c.args.number in
    let at = get_at c.deref.result.now a.cells.items c.args.number x c.deref.ensures.value c.in-Some.ensures.lookup.0 c.in-Some.ensures.lookup.1 in
    let same : x.id ≡ c.args.id = search rules in
    (seen d x, read a c.args.self.now c.self.view_is c.args.number x at, same, some_by (slot_seen d x.place x.slot) c.is_free.result (c.is_free.ensures d) t)
