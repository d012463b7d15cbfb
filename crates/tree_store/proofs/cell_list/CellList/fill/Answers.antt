use Rattle.std.proofs.Common.{arith, ap, sym, refl, subst}
use Rattle.tree_store.specs.CellLists.{cell_with, IsEmptySlot}
use Rattle.tree_store.proofs.CellLists.{within, in_written, shown_written, empty_seen, empty_in, nodes_are, data_of}
use Rattle.tree_store.proofs.cell_list.CellList.fill.Goals as goal

pub index_mut-requires : goal.index_mut-requires
index_mut-requires c = omega (arith, within c.self.inside c.args.self.now c.self.view_is c.args.number c.requires.there, c.self.inside.cells.ok.0)

pub invariant_of-self : goal.invariant_of-self
invariant_of-self c =
    let a = c.self.inside in
    let v = c.args.self.now in
    let empty = subst (λ n. IsEmptySlot n c.args.number c.args.slot) (sym (nodes_are a v c.self.view_is)) c.requires.empty in
    in_written a.cells.items _ c.args.number _ (within a v c.self.view_is c.args.number c.requires.there) (empty_in _ c.args.number c.args.slot empty) c.self.invariant

pub returns : goal.returns
returns c =
    let a = c.self.inside in
    let v = c.args.self.now in
    shown_written a v c.self.view_is (data_of a) c.args.number _ _ (within a v c.self.view_is c.args.number c.requires.there) (λ k h. refl)
    (ap (cell_with c.args.id) (empty_seen _ c.args.number _ _ c.args.slot c.requires.empty))
