use Rattle.std.proofs.Common.{rules, ◌≡◌, length, sym, subst, refl, arith}
use Rattle.std.specs.Prelude.{slice_get, slice_index_or, is_none, IfSome}
use Rattle.std.proofs.lemmas.Option.{slice_get_read}
use Rattle.tree_store.specs.Cells.{CellView}
use Rattle.tree_store.proofs.CellLists.{within, read, data_of}
use Rattle.tree_store.proofs.cell_list.CellList.is_free.Goals as goal

pub index-requires : goal.index-requires
index-requires c = omega (arith, within c.self.inside c.args.self.now c.self.view_is c.args.number c.requires, c.self.inside.cells.ok.0)

pub returns : goal.returns
returns c =
    let a = c.self.inside in
    let value : c.index.result.now ≡ slice_index_or a.cells.items c.args.number c.index.result.now = search rules in
    let at = slice_get_read a.cells.items (length a.cells.items) c.args.number c.index.result.now refl (within a c.args.self.now c.self.view_is c.args.number c.requires) value in
    subst (λ o. IfSome o (λ (x : CellView). c.is_free.result ≡ is_none x.slot)) (sym (read a c.args.self.now c.self.view_is c.args.number c.index.result.now at))
    (c.is_free.ensures (slice_get (data_of a) c.args.number))
