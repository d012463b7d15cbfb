use Rattle.std.proofs.Common.{length, None, arith, refl, subst, sym}
use Rattle.std.proofs.lemmas.Option.{slice_get_read}
use Rattle.tree_store.specs.CellLists.{cell_with}
use Rattle.tree_store.proofs.CellLists.{AreIn, within, in_written, shown_written}
use Rattle.tree_store.proofs.cell_list.CellList.free.Goals as goal

pub index-requires : goal.index-requires
index-requires c = omega (arith, within c.self.inside c.args.self.now c.self.view_is c.args.number c.requires, c.self.inside.cells.ok.0)

pub forget-requires : goal.forget-requires
forget-requires c b is =
    let a = c.self.inside in
    let at = slice_get_read a.cells.items (length a.cells.items) c.args.number c.index.result.now refl (within a c.args.self.now c.self.view_is c.args.number c.requires) c.index.ensures in
    c.self.invariant c.args.number c.index.result.now b at is

pub index_mut-requires : goal.index_mut-requires
index_mut-requires c = omega (arith, within c.self.inside c.args.self.now c.self.view_is c.args.number c.requires, c.self.inside.cells.ok.0)

pub invariant_of-self : goal.invariant_of-self
invariant_of-self c =
    let a = c.self.inside in
    in_written a.cells.items (length c.forget.new.listed.items) c.args.number _ (within a c.args.self.now c.self.view_is c.args.number c.requires) (λ b is. cc)
    (subst (AreIn a.cells.items) (sym c.forget.ensures.count) c.self.invariant)

pub returns : goal.returns
returns c =
    let a = c.self.inside in
    shown_written a c.args.self.now c.self.view_is _ c.args.number _ (cell_with c.args.id None) (within a c.args.self.now c.self.view_is c.args.number c.requires) c.forget.ensures.others refl
