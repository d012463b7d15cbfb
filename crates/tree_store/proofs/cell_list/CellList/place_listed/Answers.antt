use Rattle.std.proofs.Common.{arith, ap, sym, refl, subst, Some}
use Rattle.std.specs.Prelude.{◌<◌, slice_get}
use Rattle.std.specs.Option.{option_map}
use Rattle.tree_store.specs.CellLists.{CellsView, cell_with, placed_record}
use Rattle.tree_store.proofs.CellLists.{within, in_written, shown_written, nodes_are, data_of}
use Rattle.tree_store.proofs.cell_list.CellList.place_listed.Goals as goal

pub index_mut-requires : goal.index_mut-requires
index_mut-requires c = omega (arith, within c.self.inside c.args.self.now c.self.view_is c.args.number c.requires.there, c.self.inside.cells.ok.0)

pub invariant_of-self : goal.invariant_of-self
invariant_of-self c =
    let a = c.self.inside in
    let v = c.args.self.now in
    in_written a.cells.items _ c.args.number _ (within a v c.self.view_is c.args.number c.requires.there) (λ b is. subst (λ m. c.args.number < m) (sym (nodes_are a v c.self.view_is)) c.requires.listed) c.self.invariant

pub returns-clause-cells : goal.returns-clause-cells
returns-clause-cells c =
    let a = c.self.inside in
    let v = c.args.self.now in
    shown_written a v c.self.view_is (data_of a) c.args.number _ _ (within a v c.self.view_is c.args.number c.requires.there) (λ k h. refl)
    (ap (λ (w : CellsView). cell_with c.args.id (Some (option_map (placed_record c.args.place) (slice_get w.nodes c.args.number)))) c.self.view_is)
