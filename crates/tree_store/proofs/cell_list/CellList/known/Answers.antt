use Rattle.std.proofs.Common.{rules, ◌≡◌, ◌<◌, Some, length, sym, subst, ap, ◌∙◌, refl, arith}
use Rattle.std.specs.Prelude.{slice_get, slice_index_or, option_map, IsSome}
use Rattle.std.proofs.lemmas.Option.{slice_get_read}
use Rattle.tree_store.specs.Cells.{record_in}
use Rattle.tree_store.specs.CellLists.{placed_record, node_seen, slot_of}
use Rattle.tree_store.proofs.CellLists.{slot_is, slot_within, record_seen, some_data, some_record, data_of}
use Rattle.tree_store.proofs.cell_list.CellList.known.Goals as goal
use Rattle.tree_store.proofs.cell_list.CellList.known.Goals.{After-index-cell}

at : (c : After-index-cell) → slice_get c.self.inside.cells.items c.args.number ≡ Some c.index-cell.result.now
at c =
    let cells = c.self.inside.cells.items in
    let x = c.index-cell.result.now in
    let value : x ≡ slice_index_or cells c.args.number x = search rules in
    let within : c.args.number < length c.self.inside.cells.items = slot_within c.self.inside c.args.self.now c.self.view_is c.args.number (some_record (slot_of c.args.self.now.cells c.args.number) c.requires) in
    slice_get_read cells (length cells) c.args.number x refl within value

pub index-cell-requires : goal.index-cell-requires
index-cell-requires c =
    let within : c.args.number < length c.self.inside.cells.items = slot_within c.self.inside c.args.self.now c.self.view_is c.args.number (some_record (slot_of c.args.self.now.cells c.args.number) c.requires) in
    omega (arith, within, c.self.inside.cells.ok.0)

pub known_in-node-requires : goal.known_in-node-requires
known_in-node-requires c =
    let a = c.self.inside in
    let n = c.args.number in
    let x = c.index-cell.result.now in
    let some = some_data (slice_get (data_of a) n) x.place x.slot (subst (λ o. IsSome (record_in o)) (slot_is a c.args.self.now c.self.view_is n x (at (goal.at.known_in-node-requires c).After-index-cell)) c.requires) in
    search rules

pub returns : goal.returns
returns c =
    let a = c.self.inside in
    let n = c.args.number in
    let x = c.index-cell.result.now in
    let some : node_seen (slice_get (data_of a) n) x.slot ≡ Some c.known_in-node.result.now = search rules in
    sym (ap record_in (slot_is a c.args.self.now c.self.view_is n x (at (goal.at.returns c).After-index-cell)) ∙ record_seen (slice_get (data_of a) n) x.place x.slot ∙ ap (option_map (placed_record x.place)) some)
