use Rattle.std.proofs.Common.{◌≡◌, ◌+◌, ◌++◌, ◌∷◌, [], take, option_to_list, sym, ap, ◌∙◌}
use Rattle.std.specs.List.{flat_map}
use Rattle.std.proofs.lemmas.List.{append-nil}
use Rattle.tree_plan.specs.Writing.{change_entry}
use Rattle.tree_plan.proofs.Listed.{changes_more}
use Rattle.tree_plan.proofs.writing.node_changes.Goals as goal
use Rattle.tree_plan.proofs.writing.node_changes.Goals.{in-Some+in_ok-push, in_default}

pub loop-id-preserved : goal.loop-id-preserved
loop-id-preserved c =
    let es = c.args.verdicts.now in
    let k = c.loop-id.id-index in
    let before = flat_map change_entry (take k es) in
    let more = changes_more es c.entries-id-items.result.now c.entries-id-items.ensures.all k _ c.loop-id-test.true in
    let now : before ++ option_to_list c.entry_change.result ≡ flat_map change_entry (take (k + 1) es) = ap (λ ys. before ++ ys) c.entry_change.ensures ∙ sym more in
    elim c.match-entry_change.branch [
      | in-Some+in_ok-push w ↦ ap (λ v. v.items) w.changes-is ∙ w.in_ok-push.ensures.items ∙ ap (λ ys. ys ++ w.in-Some.change ∷ []) c.loop-id.invariant ∙ ap (λ o. before ++ option_to_list o) (sym w.in-Some.is) ∙ now
      | in_default w ↦ ap (λ v. v.items) w.changes-is ∙ c.loop-id.invariant ∙ sym (append-nil before) ∙ ap (λ o. before ++ option_to_list o) (sym w.in_default.is) ∙ now
    ]
