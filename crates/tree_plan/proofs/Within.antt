-- The look-ups of a decision are within what is allowed.
use Rattle.std.proofs.Common.{◌≡◌, ℕ, ◌+◌, ◌*◌, ◌<◌, ◌≤◌, List, [], ◌∷◌, length, slice_get, IsSome, refl, ap, ◌∙◌, subst, arith}
use Rattle.std.specs.Prelude.{Result, Ok, Err, IfOk, OnOk}
use Rattle.std.specs.FinMap.{get}
use Rattle.std.proofs.lemmas.List.{length-map}
use Rattle.schema.specs.declared.TreeId.{TreeId}
use Rattle.model.specs.declared.FullNodeId.{FullNodeId}
use Rattle.model.specs.declared.events.PlanEvent.TheVariants as told
use Rattle.model.specs.World.{World}
use Rattle.model.specs.Update.{UpdateData, IsFirst, IsRebuild, KeepsRules, index_for, merged_world}
use Rattle.model.specs.Work.{Work, IsWorkOf}
use Rattle.model.specs.Surgery.{IsOld}
use Rattle.model.proofs.Update.Merges.{length_stays, index_for_known}
use Rattle.model.proofs.Surgery.Counts.{climbs_counted}
use Rattle.model.proofs.Surgery.RulesArePassed.{rules_passed}
use Rattle.model.proofs.Surgery.OldUpdates.{old_leaves_state}
use Rattle.tree_changes.specs.declared.error.UpdateError.{UpdateError}
use Rattle.tree_changes.specs.declared.decision.Decision.{Decision}
use Rattle.tree_changes.specs.LookUps.{IsRaisedUpTo}
use Rattle.tree_changes.specs.declared.decision.NodeChange.{NodeChange}
use Rattle.tree_changes.specs.Changes.{NodeChanges, overlaid_world}
use Rattle.tree_changes.specs.Decisions.{IsWithinWork}
use Rattle.tree_plan.specs.declared.verdicts.Found.{Found}
use Rattle.tree_plan.specs.Deciding.{AreFindings, HasBegun, IsCount}
use Rattle.tree_plan.specs.Writing.{IsSmall}
use Rattle.tree_plan.specs.News.{IsOfChanges}

-- where a name is known, the root tree is present
pub root_tree_there : (w : World) → IsOld w → ¬ (IsFirst w) → IsSome (get w.trees 0)
root_tree_there w o later = go w.known refl
  where
    go : (xs : List TreeId) → w.known ≡ xs → IsSome (get w.trees 0)
    go [] e = absurd (later e)
    go (x ∷ xs) e = o.root_present x (ap (λ k. slice_get k 0) e)

-- a decision of a change and an event for each named node, and for a few others
pub short_within : (w : World) (u : UpdateData) (d : Decision) (before after : ℕ) (v : World) (rows : NodeChanges) → IsOfChanges v rows d → length rows ≤ length u.nodes + 6 → HasBegun w u before after → IsWithinWork w u d before after
short_within w u d before after v rows of few begun work is =
    let named : work.named ≡ length u.nodes = is.count_named in
    let known : work.known ≡ length (merged_world w u).known = is.count_known in
    let grown : length w.known ≤ length (merged_world w u).known = length_stays w u in
    let one : index_for w u.name < length (merged_world w u).known = index_for_known w u in
    let trees : length d.trees.items ≡ 0 = ap length of.trees in
    let nodes : length d.nodes.items ≡ length rows = ap length of.nodes in
    let events : length d.events.items ≡ length rows = ap length of.events ∙ length-map rows (λ (e : FullNodeId × NodeChange). told.Updated e.0) in
    omega (arith, begun, nodes, events, few)

-- by what a call has answered after the changes were found
pub decided_within : (w : World) (u : UpdateData) (before start after : ℕ) (v : World) (rows : NodeChanges) → length v.known ≡ length w.known → length rows ≤ length u.nodes + 6
    → start ≤ before + (1 + (length u.nodes + 21)) → (r : Result Decision UpdateError) → IfOk r (IsOfChanges v rows) → OnOk r (IsRaisedUpTo start (2 * length v.known) after)
    → IfOk r (λ d. IsWithinWork w u d before after)
decided_within w u before start after v rows same few started (Ok d) of asked =
    let begun : HasBegun w u before after = omega (arith, same, started, asked.0) in
    short_within w u d before after v rows of few begun
decided_within w u before start after v rows same few started (Err e) of asked = of

module _ (w : World) (u : UpdateData) (new : World) (before start middle after : ℕ) (f : Found) (found : AreFindings w u f) (rebuilt : IsRebuild (merged_world w u) new) (begun : HasBegun w u before start) (counted : IsCount w u f start middle) where
  within : (d : Decision) → KeepsRules w u → overlaid_world w u d ≡ new
      → ((work : Work) → IsWorkOf w u new work → IsSmall f.compared f.removed f.regrafted d work)
      → IsRaisedUpTo middle (4 * length (merged_world w u).known + 2) after → IsWithinWork w u d before after
  within d kept same small asked work is =
      let at : IsWorkOf w u new work = subst (λ v. IsWorkOf w u v work) same is in
      let short : IsSmall f.compared f.removed f.regrafted d work = small work at in
      let named : work.named ≡ length u.nodes = at.count_named in
      let known : work.known ≡ length (merged_world w u).known = at.count_known ∙ ap length rebuilt.known in
      let grown : length w.known ≤ length (merged_world w u).known = length_stays w u in
      let one : index_for w u.name < length (merged_world w u).known = index_for_known w u in
      let lost : length f.compared.lost.items ≤ length u.nodes = found.comparison.lost_count in
      let gained : length f.compared.gained.items ≤ length u.nodes = found.comparison.gained_count in
      let climbed : counted.steps ≤ work.depths = climbs_counted w u found.old (rules_passed w u found.old kept) rebuilt work at (old_leaves_state w u found.old kept new rebuilt) counted.steps counted.are_steps in
      omega (arith, begun, asked.0, counted.asked, counted.cut, counted.gained, short.entered, short.gone, short.nodes, short.trees, short.events)

  -- by what a call has answered
  pub within_by : (r : Result Decision UpdateError) → OnOk r (KeepsRules w u) → IfOk r (λ d. overlaid_world w u d ≡ new)
      → IfOk r (λ d. (work : Work) → IsWorkOf w u new work → IsSmall f.compared f.removed f.regrafted d work)
      → OnOk r (IsRaisedUpTo middle (4 * length (merged_world w u).known + 2) after) → IfOk r (λ d. IsWithinWork w u d before after)
  within_by (Ok d) kept same small asked = within d kept same small asked
  within_by (Err e) kept same small asked = kept
