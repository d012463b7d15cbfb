use Rattle.std.proofs.Common.{arith, ℕ, ◌≡◌, map, Some, drop, ◌+◌, get_or, [], None, Result, Ok, Err, IfOk, sym, ap, subst, ◌∙◌}
use Rattle.std.specs.Prelude.{cond}
use Rattle.std.specs.BTreeMap.{is_at}
use Rattle.std.proofs.Math.ListN.{drop_of_length-le}
use Rattle.std.proofs.lemmas.List.Elements.{All-head}
use Rattle.model.specs.declared.FullNodeId.{FullNodeId}
use Rattle.model.specs.FullIds.{full_cmp}
use Rattle.tree_changes.specs.declared.decision.NodeChange.{NodeChange}
use Rattle.tree_changes.specs.declared.decision.NodeChange.TheVariants.{Put}
use Rattle.tree_changes.specs.Changes.{NodeChanges, change_at, entry_of}
use Rattle.tree_store.specs.Cells.{SlotsView, record_at}
use Rattle.tree_store.specs.CellLists.{slot_of, slots_over, record_from}
use Rattle.tree_store.specs.Commits.{changed_record}
use Rattle.tree_store.proofs.WrittenSlots.{step_at}
use Rattle.tree_store.proofs.Placed.{AreLeft, none_yet, next_records, next_left}
use Rattle.tree_store.proofs.first.first_slots.Goals as goal

-- what a read past the end would give
abbrev nothing : FullNodeId × NodeChange
nothing = (record { tree = 0; node = record { 0 = 0 } }, Put None None)

pub place_one-requires-clause-none : goal.place_one-requires-clause-none
place_one-requires-clause-none c =
    let s = slots_over c.loop-change.index c.loop-change.cells in
    let step = step_at c.args.changes.now c.loop-change.change-index nothing c.loop-change-test.true in
    none_yet s (get_or c.args.changes.now c.loop-change.change-index nothing) (drop (c.loop-change.change-index + 1) c.args.changes.now) (subst (AreLeft s) step c.loop-change.invariant.left).absent

pub place_one-requires-clause-free : goal.place_one-requires-clause-free
place_one-requires-clause-free c =
    let s = slots_over c.loop-change.index c.loop-change.cells in
    let step = step_at c.args.changes.now c.loop-change.change-index nothing c.loop-change-test.true in
    All-head (λ e. (k : ℕ) → entry_of e.1 ≡ Some k → slot_of s.cells k ≡ None) (get_or c.args.changes.now c.loop-change.change-index nothing) (drop (c.loop-change.change-index + 1) c.args.changes.now) (subst (AreLeft s) step c.loop-change.invariant.left).free

pub loop-change-preserved : goal.loop-change-preserved
loop-change-preserved c =
    let first = c.args.nodes.items in
    let i = c.loop-change.invariant in
    let e = get_or c.args.changes.now c.loop-change.change-index nothing in
    let rest = drop (c.loop-change.change-index + 1) c.args.changes.now in
    let es = slots_over c.loop-change.index c.loop-change.cells in
    let fs = slots_over c.place_one.new.index c.place_one.new.cells in
    let step = step_at c.args.changes.now c.loop-change.change-index nothing c.loop-change-test.true in
    let left = subst (AreLeft es) step i.left in
    let w = c.in_ok-place_one.ensures in
    let written : (q : FullNodeId) → record_at fs q ≡ cond (is_at (full_cmp e.0) q) (record_from (map (λ e. e.1) first) e.1) (record_at es q) =
    λ q. w.records q ∙ ap (λ ds. cond (is_at (full_cmp e.0) q) (record_from ds e.1) (record_at es q)) i.nodes in
    record {
      records = λ q.
          next_records first es fs e rest left written w.tight w.others q
          ∙ ap (λ (cs : NodeChanges). changed_record first (change_at cs q) (record_at es q)) (sym step)
          ∙ i.records q;
      left = next_left first es fs e rest left written w.tight w.others;
      own = w.own;
      count = w.count;
      nodes = w.nodes ∙ i.nodes;
    }

ok_by : {E : Type 0} (r : Result SlotsView E) (s : SlotsView) (Q : SlotsView → Type 0) → IfOk r (λ m. m ≡ s) → Q s → IfOk r Q
ok_by (Ok m) s Q e q = subst Q (sym e) q
ok_by (Err x) s Q e q = tt

pub returns-clause-records : goal.returns-clause-records
returns-clause-records c =
    let done : drop c.loop-change.change-index c.args.changes.now ≡ [] = drop_of_length-le c.args.changes.now (omega (arith, c.loop-change-test.false)) in
    ok_by c.of_first.result _ (λ s. (id : FullNodeId) → record_at s id ≡ changed_record c.args.nodes.items (change_at c.args.changes.now id) None) c.of_first.ensures
    (λ q. ap (λ (cs : NodeChanges). changed_record c.args.nodes.items (change_at cs q) (record_at (slots_over c.loop-change.index c.loop-change.cells) q)) (sym done) ∙ c.loop-change.invariant.records q)
