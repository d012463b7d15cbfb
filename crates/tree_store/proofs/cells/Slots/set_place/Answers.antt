use Rattle.std.proofs.Common.{rules, ◌≡◌, Some, ap, ◌∙◌}
use Rattle.tree_store.specs.Cells.{number_of, record_at, record_in}
use Rattle.tree_store.specs.CellsKept.{slots_of}
use Rattle.std.specs.Prelude.{is_some}
use Rattle.tree_store.specs.Commits.{record_moved_to}
use Rattle.tree_store.proofs.CellWrites.{IsRenewed, renewed, slot_by}
use Rattle.tree_store.proofs.cells.Slots.set_place.Goals as goal
use Rattle.tree_store.proofs.cells.Slots.set_place.Goals.{After-move_to}

pub move_to-requires : goal.move_to-requires
move_to-requires c =
    let at : number_of (slots_of c.self.inside) c.args.id ≡ Some c.in-Some.number = search rules in
    ap is_some (slot_by (slots_of c.self.inside) c.args.self.now c.self.view_is c.args.id c.in-Some.number at) ∙ c.requires

-- the cell is written
written : (c : After-move_to) → IsRenewed c.self.inside c.args.self.now c.args.id c.move_to.new.self.cells (record_moved_to c.args.place (record_at c.args.self.now c.args.id))
written c =
    let at : number_of (slots_of c.self.inside) c.args.id ≡ Some c.in-Some.number = search rules in
    renewed c.self.inside c.self.invariant c.args.self.now c.self.view_is c.args.id c.in-Some.number at (record_moved_to c.args.place) c.move_to.new.self.cells c.move_to.ensures.cell

pub invariant_of-self : goal.invariant_of-self
invariant_of-self c = let w = written (goal.at.invariant_of-self c).After-move_to in record { cells = w.cells; free = w.free; room = w.room; bound = w.bound }

pub returns-clause-there : goal.returns-clause-there
returns-clause-there c =
    let at : number_of (slots_of c.self.inside) c.args.id ≡ Some c.in-Some.number = search rules in
    c.move_to.ensures.there ∙ ap (λ o. is_some (record_in o)) (slot_by (slots_of c.self.inside) c.args.self.now c.self.view_is c.args.id c.in-Some.number at)

pub returns-clause-after : goal.returns-clause-after
returns-clause-after c = (written (goal.at.returns-clause-after c).After-move_to).slots
