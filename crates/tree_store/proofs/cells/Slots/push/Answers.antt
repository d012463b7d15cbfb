use Rattle.std.proofs.Common.{rules, ◌≡◌, ◌∷◌, ◌++◌, [], length, ◌+◌, cond, None, Some, refl, sym, ap, subst, ◌∙◌, arith, length-append}
use Rattle.std.specs.Map.{lookup}
use Rattle.std.specs.BTreeMap.{is_at}
use Rattle.model.specs.declared.FullNodeId.{FullNodeId}
use Rattle.model.specs.FullIds.{full_cmp}
use Rattle.tree_store.specs.Cells.{SlotsView, CellView, number_of, slot_at, HasOwnCells, IsFreeList}
use Rattle.tree_store.specs.CellsKept.{slots_of}
use Rattle.tree_store.specs.CellLists.{IsEmptySlot, cell_with}
use Rattle.tree_store.proofs.CellWrites.{no_number, cells_more, slots_more, free_more}
use Rattle.tree_store.proofs.cells.Slots.push.Goals as goal
use Rattle.tree_store.proofs.cells.Slots.push.Goals.{In_ok-insert}

-- the id had no number, and has the next one
numbered : (c : In_ok-insert) → (number_of (slots_of c.self.inside) c.args.id ≡ None)
    × ((q : FullNodeId) → lookup (is_at (full_cmp q)) c.insert.new.self ≡ cond (is_at (full_cmp c.args.id) q) (Some (length c.self.inside.cells.cells)) (number_of (slots_of c.self.inside) q))
numbered c =
    let a = c.self.inside in
    let n : c.len-number.result ≡ length a.cells.cells = c.len-number.ensures in (
      no_number (slots_of a) c.self.invariant.cells c.args.id (ap (λ v. slot_at v c.args.id) c.self.view_is ∙ c.requires),
      λ q. c.in_ok-insert.ensures.updates q ∙ ap (λ m. cond (is_at (full_cmp c.args.id) q) (Some m) (number_of (slots_of a) q)) n,
    )

pub push-requires-clause-room : goal.push-requires-clause-room
push-requires-clause-room c = omega (arith, ap length c.grow.ensures.cells, c.in_ok-grow.ensures.ok, c.len-number.ensures)

pub push-requires-clause-empty : goal.push-requires-clause-empty
push-requires-clause-empty c =
    let a = c.self.inside in
    let n : c.len-number.result ≡ length a.cells.cells = c.len-number.ensures in
    let here = subst (λ m. IsEmptySlot (length a.cells.nodes) m c.in_ok-slot.slot) (n ∙ sym (ap length c.grow.ensures.cells)) c.in_ok-slot.ensures in
    subst (λ m. IsEmptySlot m (length c.grow.new.self.cells) c.in_ok-slot.slot) (sym (ap length c.grow.ensures.nodes)) here

pub invariant_of-self-2 : goal.invariant_of-self-2
invariant_of-self-2 c =
    let a = c.self.inside in
    let k = c.self.invariant in
    let new : CellView = cell_with c.args.id (Some None) in
    let given = numbered (goal.at.invariant_of-self-2 c).In_ok-insert in
    let n : c.len-number.result ≡ length a.cells.cells = c.len-number.ensures in
    let cells : c.push.new.self.cells ≡ a.cells.cells ++ new ∷ [] = c.push.ensures ∙ ap (λ l. l ++ new ∷ []) c.grow.ensures.cells in
    let free : c.grow-2.new.list.items ≡ a.free.items = search rules in
    let long : length c.push.new.self.cells ≡ length a.cells.cells + 1 = ap length cells ∙ length-append a.cells.cells (new ∷ []) in
    record {
      cells = subst (λ l. HasOwnCells (record { numbers = c.insert.new.self; cells = l })) (sym cells) (cells_more (slots_of a) k.cells c.args.id new c.insert.new.self refl refl given.0 given.1);
      free = subst (λ l. IsFreeList c.push.new.self.cells l) (sym free) (subst (λ l. IsFreeList l a.free.items) (sym cells) (free_more a.cells.cells a.free.items new k.free refl));
      room = omega (arith, long, n, c.in_ok-grow-2.ensures.ok);
      bound = omega (arith, long, n, c.if-number-ge-MOST.false);
    }

pub returns-clause-ok : goal.returns-clause-ok
returns-clause-ok c q =
    let new : CellView = cell_with c.args.id (Some None) in
    let given = numbered (goal.at.returns-clause-ok c).In_ok-insert in
    let cells : c.push.new.self.cells ≡ c.self.inside.cells.cells ++ new ∷ [] = c.push.ensures ∙ ap (λ l. l ++ new ∷ []) c.grow.ensures.cells in
    ap (λ l. let s : SlotsView = record { numbers = c.insert.new.self; cells = l } in slot_at s q) cells
    ∙ slots_more (slots_of c.self.inside) c.self.invariant.cells c.args.id new c.insert.new.self refl refl given.0 given.1 q
    ∙ ap (λ v. cond (is_at (full_cmp c.args.id) q) (Some None) (slot_at v q)) c.self.view_is
