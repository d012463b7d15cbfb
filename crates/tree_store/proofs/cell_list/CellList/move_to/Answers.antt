use Rattle.std.proofs.Common.{◌≡◌, length, Some, arith, ap, sym, refl, ◌∙◌}
use Rattle.std.specs.Prelude.{slice_get, option_and_then, IsSome, is_some}
use Rattle.std.proofs.lemmas.Option.{slice_get_read}
use Rattle.tree_store.specs.Cells.{CellView, record_in}
use Rattle.tree_store.specs.CellLists.{slot_seen}
use Rattle.tree_store.specs.Commits.{record_moved_to}
use Rattle.tree_store.proofs.CellLists.{slot_within, slot_is, in_written, shown_changed, moved_seen, full_seen, data_there, data_of}
use Rattle.tree_store.proofs.cell_list.CellList.move_to.Goals as goal
use Rattle.tree_store.proofs.cell_list.CellList.move_to.Goals.{After-self-1}

-- the cell before it is moved
at : (c : After-self-1) → slice_get c.self.inside.cells.items c.args.number ≡ Some c.index_mut.result.now
at c = slice_get_read c.self.inside.cells.items (length c.self.inside.cells.items) c.args.number c.index_mut.result.now refl (slot_within c.self.inside c.args.self.now c.self.view_is c.args.number c.requires) c.index_mut.ensures.value

pub index_mut-requires : goal.index_mut-requires
index_mut-requires c = omega (arith, slot_within c.self.inside c.args.self.now c.self.view_is c.args.number c.requires, c.self.inside.cells.ok.0)

pub invariant_of-self : goal.invariant_of-self
invariant_of-self c =
    let a = c.self.inside in
    in_written a.cells.items (length a.listed.items) c.args.number c.set_place.new.cell (slot_within a c.args.self.now c.self.view_is c.args.number c.requires)
    (λ b is. c.self.invariant c.args.number c.index_mut.result.now b (at c) (sym c.set_place.ensures.slot ∙ is)) c.self.invariant

pub returns-clause-there : goal.returns-clause-there
returns-clause-there c =
    let a = c.self.inside in
    let x = c.index_mut.result.now in
    c.set_place.ensures.there
    ∙ full_seen (slice_get (data_of a) c.args.number) x.place x.slot (λ b is. data_there a c.args.self.now c.self.view_is c.args.number (c.self.invariant c.args.number x b (at c) is))
    ∙ sym (ap (λ o. is_some (record_in o)) (slot_is a c.args.self.now c.self.view_is c.args.number x (at c)))

pub returns-clause-cell : goal.returns-clause-cell
returns-clause-cell c w shown =
    let a = c.self.inside in
    let v = c.args.self.now in
    let x = c.index_mut.result.now in
    let y = c.set_place.new.cell in
    let d = slice_get (data_of a) c.args.number in
    let some : IsSome (slot_seen d x.place x.slot) = ap is_some (sym (slot_is a v c.self.view_is c.args.number x (at c))) ∙ c.requires in
    let seen_is : slot_seen d x.place x.slot ≡ w.slot = sym (slot_is a v c.self.view_is c.args.number x (at c)) ∙ ap (option_and_then (λ (z : CellView). z.slot)) shown in
    shown_changed a v c.self.view_is c.args.number x y (Some (record_moved_to c.args.place (record_in w.slot))) (at c) c.set_place.ensures.id
    (ap (λ s. slot_seen d y.place s) c.set_place.ensures.slot ∙ ap (λ p. slot_seen d p x.slot) c.set_place.ensures.place ∙ moved_seen d x.place c.args.place x.slot some ∙ ap (λ o. Some (record_moved_to c.args.place (record_in o))) seen_is) w shown
