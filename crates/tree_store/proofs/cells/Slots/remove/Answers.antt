use Rattle.std.proofs.Common.{rules, ◌≡◌, ◌<◌, ◌∷◌, ◌++◌, [], cond, length, slice_get, slice_set, None, Some, refl, sym, ap, subst, ◌∙◌, arith, inl}
use Rattle.std.specs.Prelude.{IsSome}
use Rattle.std.specs.Vec.{vec_capacity, vec_len}
use Rattle.std.specs.BTreeMap.{is_at}
use Rattle.std.proofs.lemmas.List.{length-set}
use Rattle.std.proofs.lemmas.Option.{slice_get_within}
use Rattle.model.specs.FullIds.{full_cmp}
use Rattle.tree_store.specs.Cells.{SlotsView, CellView, kept_in, slot_at, HasOwnCells, IsFreeList}
use Rattle.tree_store.specs.CellsKept.{slots_of}
use Rattle.tree_store.specs.CellLists.{cell_with}
use Rattle.tree_store.proofs.CellWrites.{cells_written, slots_written, free_given, fewer_free, is_err_ok}
use Rattle.tree_store.proofs.cells.Slots.remove.Goals as goal
use Rattle.tree_store.proofs.cells.Slots.remove.Goals.{In-Some}

-- the cell of the id
own : (c : In-Some) → (x : CellView) × (slice_get c.self.inside.cells.cells c.in-Some.number ≡ Some x) × (x.id ≡ c.args.id) × IsSome (kept_in x)
own c = c.self.invariant.cells.own c.args.id c.in-Some.number (sym c.in-Some.ensures.old)

pub free-requires : goal.free-requires
free-requires c = slice_get_within c.self.inside.cells.cells c.in-Some.number (own (goal.at.free-requires c).In-Some).0 (own (goal.at.free-requires c).In-Some).1

pub unreachable-requires : goal.unreachable-requires
unreachable-requires c =
    let a = c.self.inside in
    let k = c.self.invariant in
    let o = own (goal.at.unreachable-requires c).In-Some in
    let few = fewer_free a.cells.cells a.free.items k.free c.in-Some.number o.0 (cell_with c.args.id None) o.1 o.3 refl in
    let fits : vec_len a.free < vec_capacity a.free = omega (arith, few, a.free.ok.0, k.room) in
    is_err_ok c.push.result (c.push.ensures.succeeds fits) (sym c.is_err.ensures.value ∙ c.if-is_err.true)

pub invariant_of-self-2 : goal.invariant_of-self-2
invariant_of-self-2 c =
    let a = c.self.inside in
    let k = c.self.invariant in
    let n = c.in-Some.number in
    let new : CellView = cell_with c.args.id None in
    let o = own (goal.at.invariant_of-self-2 c).In-Some in
    let free : c.push.new.self.items ≡ a.free.items ++ n ∷ [] = search rules in
    let long : length c.free.new.self.cells ≡ length a.cells.cells = ap length c.free.ensures ∙ length-set a.cells.cells n new in
    record {
      cells = subst (λ l. HasOwnCells (record { numbers = c.remove.new.self; cells = l })) (sym c.free.ensures) (cells_written (slots_of a) k.cells c.args.id n o.0 new c.remove.new.self o.1 refl c.remove.ensures.updates (inl (sym c.in-Some.ensures.old)));
      free = subst (λ l. IsFreeList l c.push.new.self.items) (sym c.free.ensures) (subst (λ l. IsFreeList (slice_set a.cells.cells n new) l) (sym free) (free_given a.cells.cells a.free.items k.free n o.0 new o.1 o.3 refl));
      room = omega (arith, long, k.room, c.push.ensures.capacity);
      bound = omega (arith, long, k.bound);
    }

pub returns : goal.returns
returns c q =
    let o = own (goal.at.returns c).In-Some in
    ap (λ l. let s : SlotsView = record { numbers = c.remove.new.self; cells = l } in slot_at s q) c.free.ensures
    ∙ slots_written _ c.self.invariant.cells c.args.id c.in-Some.number o.0 (cell_with c.args.id None) c.remove.new.self o.1 refl c.remove.ensures.updates (inl (sym c.in-Some.ensures.old)) q
    ∙ ap (λ v. cond (is_at (full_cmp c.args.id) q) None (slot_at v q)) c.self.view_is
