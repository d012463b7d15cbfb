use Rattle.std.proofs.Common.{◌≡◌, ◌<◌, length, subst, sym, ap, ◌∙◌, arith}
use Rattle.std.specs.Prelude.{cond, is_some}
use Rattle.std.specs.Option.{option_map}
use Rattle.std.specs.BTreeMap.{is_at}
use Rattle.std.proofs.lemmas.Option.{slice_get_past}
use Rattle.model.specs.FullIds.{full_cmp}
use Rattle.tree_store.specs.Cells.{SlotsView, slot_at, record_at, HasOwnCells}
use Rattle.tree_store.specs.CellLists.{slot_of, slots_over, placed_record}
use Rattle.tree_store.proofs.Placed.{own_placed, records_placed, tight_placed, others_placed, absent_records, placed_there}
use Rattle.tree_store.proofs.first.place_at.Goals as goal
use Rattle.tree_store.proofs.first.place_at.Goals.{After-place_listed}

pub returns-then-entry-listed-clause-records : goal.returns-then-entry-listed-clause-records
returns-then-entry-listed-clause-records c =
    absent_records (slots_over c.args.index.now c.args.cells.now) c.args.id _ c.requires.none
    (ap (option_map (placed_record c.args.place)) (slice_get_past c.args.cells.now.nodes c.args.entry (omega (arith, c.listed.ensures, c.if-entry-listed.true))))

-- there is a cell for the entry
low : (c : After-place_listed) → c.args.entry < length c.args.cells.now.cells
low c = omega (arith, c.listed.ensures, c.if-entry-listed.false, c.requires.count.count)

pub returns-clause-own : goal.returns-clause-own
returns-clause-own c =
    subst (λ l. HasOwnCells (record { numbers = c.insert.new.self; cells = l })) (sym c.place_listed.ensures.cells)
    (own_placed (slots_over c.args.index.now c.args.cells.now) c.requires.own c.args.id c.args.entry _ c.insert.new.self c.requires.none (low c) c.requires.free c.in_ok-insert.ensures.updates)

pub returns-clause-records : goal.returns-clause-records
returns-clause-records c q =
    ap (λ l. let s : SlotsView = record { numbers = c.insert.new.self; cells = l } in record_at s q) c.place_listed.ensures.cells
    ∙ records_placed (slots_over c.args.index.now c.args.cells.now) c.requires.own c.args.id c.args.entry _ c.insert.new.self c.requires.none (low c) c.requires.free c.in_ok-insert.ensures.updates q

pub returns-clause-tight : goal.returns-clause-tight
returns-clause-tight c q =
    let some = placed_there c.args.cells.now.nodes c.args.entry c.args.place (omega (arith, c.listed.ensures, c.if-entry-listed.false)) in
    subst (λ l. let s : SlotsView = record { numbers = c.insert.new.self; cells = l } in is_some (slot_at s q) ≡ cond (is_at (full_cmp c.args.id) q) (is_some (record_at s q)) (is_some (slot_at (slots_over c.args.index.now c.args.cells.now) q))) (sym c.place_listed.ensures.cells)
    (tight_placed (slots_over c.args.index.now c.args.cells.now) c.requires.own c.args.id c.args.entry _ c.insert.new.self c.requires.none (low c) c.requires.free c.in_ok-insert.ensures.updates some q)

pub returns-clause-others : goal.returns-clause-others
returns-clause-others c k apart = ap (λ l. slot_of l k) c.place_listed.ensures.cells ∙ others_placed c.args.cells.now.cells c.args.entry _ k apart
