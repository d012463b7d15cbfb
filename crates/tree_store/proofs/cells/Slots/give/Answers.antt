use Rattle.std.proofs.Common.{rules, ◌≡◌, ◌≤◌, ◌<◌, ◌-◌, ◌^◌, length, cond, slice_get, None, Some, refl, sym, ap, subst, ◌∙◌, arith, inr}
use Rattle.std.specs.Prelude.{IsSome}
use Rattle.std.specs.Vec.{vec_capacity}
use Rattle.std.specs.BTreeMap.{is_at}
use Rattle.std.proofs.lemmas.List.{length-set}
use Rattle.std.proofs.lemmas.Option.{slice_get_within}
use Rattle.model.specs.FullIds.{full_cmp}
use Rattle.tree_store.specs.Cells.{SlotsView, CellView, kept_in, number_of, slot_at, HasOwnCells, IsFreeList}
use Rattle.tree_store.specs.CellsKept.{slots_of}
use Rattle.tree_store.specs.CellLists.{cell_with}
use Rattle.tree_store.proofs.CellWrites.{no_number, popped, cells_written, slots_written, free_taken}
use Rattle.tree_store.proofs.cells.Slots.give.Goals as goal
use Rattle.tree_store.proofs.cells.Slots.give.Goals.{In_ok-insert}

-- the last cell in the list of free ones is free, and the id has none
taken : (c : In_ok-insert) → ((x : CellView) × (slice_get c.self.inside.cells.cells c.in-Some.number ≡ Some x) × (kept_in x ≡ None)) × (number_of (slots_of c.self.inside) c.args.id ≡ None)
taken c =
    let a = c.self.inside in
    let k = c.self.invariant in
    let at : slice_get a.free.items (length a.free.items - 1) ≡ Some c.in-Some.number = search rules in
    (k.free.empty (length a.free.items - 1) c.in-Some.number at, no_number (slots_of a) k.cells c.args.id (ap (λ v. slot_at v c.args.id) c.self.view_is ∙ c.requires))

pub fill-requires-clause-there : goal.fill-requires-clause-there
fill-requires-clause-there c = let t = taken (goal.at.fill-requires-clause-there c).In_ok-insert in slice_get_within c.self.inside.cells.cells c.in-Some.number t.0.0 t.0.1

pub invariant_of-self-2 : goal.invariant_of-self-2
invariant_of-self-2 c =
    let a = c.self.inside in
    let k = c.self.invariant in
    let n = c.in-Some.number in
    let new : CellView = cell_with c.args.id (Some None) in
    let at : slice_get a.free.items (length a.free.items - 1) ≡ Some n = search rules in
    let t = taken (goal.at.invariant_of-self-2 c).In_ok-insert in
    let there : IsSome c.pop.result = c.pop.ensures.variant.1 (omega (arith, a.free.ok.0, slice_get_within a.free.items (length a.free.items - 1) n at)) in
    let is = popped a.free.items c.pop.new.self.items c.pop.result n c.pop.ensures.items there at in
    let long : length c.fill.new.self.cells ≡ length a.cells.cells = ap length c.fill.ensures ∙ length-set a.cells.cells n new in
    record {
      cells = subst (λ l. HasOwnCells (record { numbers = c.insert.new.self; cells = l })) (sym c.fill.ensures) (cells_written (slots_of a) k.cells c.args.id n t.0.0 new c.insert.new.self t.0.1 refl c.in_ok-insert.ensures.updates (inr (t.1, t.0.2)));
      free = subst (λ l. IsFreeList l c.pop.new.self.items) (sym c.fill.ensures) (free_taken a.cells.cells a.free.items k.free n t.0.0 new t.0.1 c.pop.new.self.items is t.0.2 refl);
      room = subst (λ m. m ≤ vec_capacity c.pop.new.self) (sym long) (subst (λ m. length a.cells.cells ≤ m) (sym c.pop.ensures.capacity) k.room);
      bound = subst (λ m. m < 2 ^ 32) (sym long) k.bound;
    }

pub returns-clause-ok : goal.returns-clause-ok
returns-clause-ok c q =
    let t = taken (goal.at.returns-clause-ok c).In_ok-insert in
    ap (λ l. let s : SlotsView = record { numbers = c.insert.new.self; cells = l } in slot_at s q) c.fill.ensures
    ∙ slots_written _ c.self.invariant.cells c.args.id c.in-Some.number t.0.0 (cell_with c.args.id (Some None)) c.insert.new.self t.0.1 refl c.in_ok-insert.ensures.updates (inr (t.1, t.0.2)) q
    ∙ ap (λ v. cond (is_at (full_cmp c.args.id) q) (Some None) (slot_at v q)) c.self.view_is
