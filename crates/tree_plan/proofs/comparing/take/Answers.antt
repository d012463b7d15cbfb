use Rattle.std.proofs.Common.{◌≡◌, ◌+◌, ◌≤◌, ℕ, true, List, Some, None, length, take, slice_get, refl, sym, subst, ◌∙◌, ap, arith}
use Rattle.std.specs.Map.{keys_of}
use Rattle.std.proofs.lemmas.List.{length-map, take_all}
use Rattle.std.proofs.lemmas.Option.{slice_get_read}
use Rattle.schema.specs.NodeData.{NodeData}
use Rattle.schema.specs.declared.NodeId.{NodeId}
use Rattle.schema.specs.UpdateData.{UpdateData, update_data}
use Rattle.model.specs.declared.FullNodeId.{FullNodeId}
use Rattle.model.specs.World.{in_tree}
use Rattle.tree_plan.specs.declared.passes.Named.{Named}
use Rattle.tree_plan.proofs.Taking.{entry_ids, taken_next, taken_twice, taken}
use Rattle.tree_plan.proofs.comparing.take.Goals as goal

-- once the loop has ended, all entries are taken
all_taken : (index : ℕ) (u : UpdateData) (k : ℕ) (list : List (FullNodeId × Named)) → length u.nodes ≤ k → keys_of list ≡ take k (entry_ids index u) → keys_of list ≡ entry_ids index u
all_taken index u k list fits h = let same = length-map u.nodes (λ (e : NodeId × NodeData). in_tree index e.0) in h ∙ take_all k (entry_ids index u) (omega arith)

pub loop-entry-preserved : goal.loop-entry-preserved
loop-entry-preserved c =
    let u : UpdateData = update_data c.args.update.now in
    let k = c.loop-entry.entry in
    let xs = c.deref-item-items.result.now in
    let at_k : slice_get xs k ≡ Some c.item-item.result = slice_get_read xs (length xs) k _ refl c.loop-entry-test.true c.item-item.is in
    let items : xs ≡ u.nodes = c.deref-item-items.ensures.value in
    let v : Named = record { entry = k; was = None; is_news = true } in
    subst (λ es. keys_of es ≡ take (k + 1) (entry_ids c.args.index u)) (sym c.in_ok-push.ensures.ok)
    (taken_next c.args.index u k c.item-item.result (subst (λ ys. slice_get ys k ≡ Some c.item-item.result) items at_k) c.loop-entry.list c.loop-entry.invariant c.full_id.result v c.full_id.ensures)

pub returns-in-Ok-clause-ok : goal.returns-in-Ok-clause-ok
returns-in-Ok-clause-ok c =
    let u : UpdateData = update_data c.args.update.now in
    let items : length c.deref-item-items.result.now ≡ length u.nodes = ap length c.deref-item-items.ensures.value in
    let whole = all_taken c.args.index u c.loop-entry.entry c.loop-entry.list (omega arith) c.loop-entry.invariant in
    let e = c.in-Ok.ensures in
    taken c.args.index u c.loop-entry.list whole c.in-Ok.named e.ok e.reads e.once

pub returns-in-Err-clause-err : goal.returns-in-Err-clause-err
returns-in-Err-clause-err c =
    let u : UpdateData = update_data c.args.update.now in
    let items : length c.deref-item-items.result.now ≡ length u.nodes = ap length c.deref-item-items.ensures.value in
    let whole = all_taken c.args.index u c.loop-entry.entry c.loop-entry.list (omega arith) c.loop-entry.invariant in
    taken_twice c.args.index u c.loop-entry.list whole c.in-Err.id c.in-Err.ensures.err
