use Rattle.std.proofs.Common.{◌≡◌, ◌≢◌, ◌∷◌, ◌+◌, drop, sym, ap, subst, ◌∙◌}
use Rattle.std.specs.Prelude.{AllPairs, List}
use Rattle.tree_changes.specs.declared.look_ups.TreeRecord.{TreeRecord}
use Rattle.tree_changes.specs.Changes.{tree_change}
use Rattle.tree_store.specs.KeptNames.{name_at, name_after, HasNames}
use Rattle.tree_store.proofs.WrittenSlots.{step_at}
use Rattle.tree_store.proofs.NamesKept.{names_next, there_next, once_next}
use Rattle.tree_store.proofs.names.write_names.Goals as goal

pub loop-record-preserved : goal.loop-record-preserved
loop-record-preserved c =
    let r = c.record-item.result in
    let rest = drop (c.loop-record.record-index + 1) c.args.records.now in
    let step : drop c.loop-record.record-index c.args.records.now ≡ r ∷ rest = step_at c.args.records.now c.loop-record.record-index r c.loop-record-test.true ∙ ap (λ x. x ∷ rest) (sym c.record-item.is) in
    let i = c.loop-record.invariant in
    let before = name_at c.loop-record.names in
    let after = name_at c.write_name.new.names in
    let once = subst (AllPairs (λ (a b : TreeRecord). a.id ≢ b.id)) step i.once in
    record {
      names = λ q. names_next before after r rest once c.write_name.ensures q ∙ ap (λ (rs : List TreeRecord). name_after (tree_change rs q) (before q)) (sym step) ∙ i.names q;
      there = there_next before after r rest once c.write_name.ensures (subst (HasNames c.loop-record.names) step i.there);
      once = once_next before after r rest once c.write_name.ensures;
    }
