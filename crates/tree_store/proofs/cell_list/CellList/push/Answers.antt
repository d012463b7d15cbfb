use Rattle.std.proofs.Common.{rules, ◌≡◌, ◌<◌, ◌++◌, ◌∷◌, [], length, arith, ap, sym, subst, ◌∙◌, None}
use Rattle.std.specs.Vec.{vec_len, vec_capacity}
use Rattle.tree_store.specs.declared.cell_list.Cell.{Cell}
use Rattle.tree_store.specs.CellLists.{CellsView, all_seen, cell_with, IsEmptySlot}
use Rattle.tree_store.proofs.CellLists.{AreIn, count_is, in_more, shown_more, empty_seen, empty_in, nodes_are, data_of}
use Rattle.tree_store.proofs.CellWrites.{is_err_ok}
use Rattle.tree_store.proofs.cell_list.CellList.push.Goals as goal

pub unreachable-requires : goal.unreachable-requires
unreachable-requires c =
    let a = c.self.inside in
    let room : vec_len a.cells < vec_capacity a.cells = omega (arith, count_is a c.args.self.now c.self.view_is, c.requires.room, a.cells.ok.0, ap (λ (w : CellsView). w.capacity) c.self.view_is) in
    is_err_ok c.push.result (c.push.ensures.succeeds room) (sym c.is_err.ensures.value ∙ c.if-is_err.true)

pub invariant_of-self : goal.invariant_of-self
invariant_of-self c =
    let a = c.self.inside in
    let v = c.args.self.now in
    let new : Cell = record { id = c.args.id; place = None; slot = c.args.slot } in
    let count = length a.listed.items in
    let number = length a.cells.items in
    let cells : c.push.new.self.items ≡ a.cells.items ++ new ∷ [] = search rules in
    let there : IsEmptySlot (length v.nodes) number c.args.slot = subst (λ n. IsEmptySlot (length v.nodes) n c.args.slot) (sym (count_is a v c.self.view_is)) c.requires.empty in
    let empty : IsEmptySlot count number c.args.slot = subst (λ n. IsEmptySlot n number c.args.slot) (sym (nodes_are a v c.self.view_is)) there in
    subst (λ l. AreIn l count) (sym cells) (in_more a.cells.items count new (empty_in count number c.args.slot empty) c.self.invariant)

pub returns : goal.returns
returns c =
    let a = c.self.inside in
    let v = c.args.self.now in
    let new : Cell = record { id = c.args.id; place = None; slot = c.args.slot } in
    let cells : c.push.new.self.items ≡ a.cells.items ++ new ∷ [] = search rules in
    ap (all_seen (data_of a)) cells
    ∙ shown_more a v c.self.view_is new (cell_with c.args.id _) (ap (cell_with c.args.id) (empty_seen (length v.nodes) (length v.cells) _ None c.args.slot c.requires.empty))
