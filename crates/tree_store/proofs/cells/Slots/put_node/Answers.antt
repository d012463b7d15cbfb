use Rattle.std.proofs.Common.{rules, ◌≡◌, Some, ap, ◌∙◌}
use Rattle.std.specs.Prelude.{is_some}
use Rattle.tree_store.specs.Cells.{number_of, record_at}
use Rattle.tree_store.specs.CellsKept.{slots_of}
use Rattle.tree_changes.specs.declared.decision.NodeChange.TheVariants.{Put}
use Rattle.tree_store.specs.Commits.{record_after}
use Rattle.tree_store.proofs.CellWrites.{IsRenewed, renewed, slot_by}
use Rattle.tree_store.proofs.cells.Slots.put_node.Goals as goal
use Rattle.tree_store.proofs.cells.Slots.put_node.Goals.{After-put}

pub put-requires-clause-slot : goal.put-requires-clause-slot
put-requires-clause-slot c =
    let at : number_of (slots_of c.self.inside) c.args.id ≡ Some c.in-Some.number = search rules in
    ap is_some (slot_by (slots_of c.self.inside) c.args.self.now c.self.view_is c.args.id c.in-Some.number at) ∙ c.requires.slot

-- the cell is written
written : (c : After-put) → IsRenewed c.self.inside c.args.self.now c.args.id c.put.new.self.cells (record_after c.args.nodes.now.items (Put c.args.place (Some c.args.entry)) (record_at c.args.self.now c.args.id))
written c =
    let at : number_of (slots_of c.self.inside) c.args.id ≡ Some c.in-Some.number = search rules in
    renewed c.self.inside c.self.invariant c.args.self.now c.self.view_is c.args.id c.in-Some.number at (record_after c.args.nodes.now.items (Put c.args.place (Some c.args.entry))) c.put.new.self.cells c.put.ensures.cell

pub invariant_of-self : goal.invariant_of-self
invariant_of-self c = let w = written (goal.at.invariant_of-self c).After-put in record { cells = w.cells; free = w.free; room = w.room; bound = w.bound }

pub returns-clause-slots : goal.returns-clause-slots
returns-clause-slots c = (written (goal.at.returns-clause-slots c).After-put).slots
