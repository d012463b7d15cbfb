-- What nothing restricts, the common filter answers for by the node alone.
use Rattle.std.proofs.Common.{◌≡◌, Bool, true, false, cond, ◌||◌, [], Some, None, refl, sym, ap, subst, ◌∙◌}
use Rattle.std.specs.Prelude.{IsTrue, ◌↔◌}
use Rattle.std.specs.BTreeMap.{is_at}
use Rattle.std.specs.List.{list_any}
use Rattle.std.proofs.lemmas.Option.{same_Some}
use Rattle.model.specs.declared.FullNodeId.{FullNodeId}
use Rattle.model.specs.declared.filters.FilterResult.{FilterResult}
use Rattle.model.specs.Filters.{common_filter}
use Rattle.model.specs.Focus.{IsFocusedNode}
use Rattle.model.specs.FocusFound.{is_focused}
use Rattle.model.specs.Forest.{IsFormed}
use Rattle.model.specs.FullIds.{full_cmp}
use Rattle.model.specs.State.{IsState}
use Rattle.model.specs.Lists.{ancestors}
use Rattle.model.specs.Upward.{says}
use Rattle.model.specs.World.{World}
use Rattle.model.proofs.Focus.FocusIsFound.{focused_node_is_found}
use Rattle.values_by_id.specs.Cells.{value_at}
use Rattle.values_by_id.proofs.Entries.{same_id}
use Rattle.views.specs.declared.node.node_ref.NodeRef.{NodeRef}
use Rattle.views.specs.Nodes.{world_at, id_at, data_at}
use Rattle.views.proofs.Climbing.{parent_of, parent_above, nothing_above, says_shown}
use Rattle.find.specs.declared.shown.Free.{Free}
use Rattle.find.specs.Free.{AreFree, is_restricted, restricts}

-- nothing is known at first
pub none_free : (w : World) (free : Free) → free.known ≡ [] → AreFree w free
none_free w free none id at = let clash : None ≡ Some true = sym (ap (λ es. value_at es id) none) ∙ at in cc

-- what is noted is so, and so is the rest
pub noted_free : (w : World) (old new : Free) (id : FullNodeId) (b : Bool) → ((q : FullNodeId) → value_at new.known q ≡ cond (is_at (full_cmp id) q) (Some b) (value_at old.known q)) →
    (b ≡ true → is_restricted w id ≡ false) → AreFree w old → AreFree w new
noted_free w old new id b set is so q at = by_case (is_at (full_cmp id) q) refl (sym (set q) ∙ at)
  where
    by_case : (here : Bool) → is_at (full_cmp id) q ≡ here → cond here (Some b) (value_at old.known q) ≡ Some true → is_restricted w q ≡ false
    by_case true e h = subst (λ x. is_restricted w x ≡ false) (same_id id q e) (is (same_Some b true h))
    by_case false e h = so q h

-- a node is free that restricts nothing, if its parent is free
pub free_by_parent : (n : NodeRef) → IsFormed (world_at n) → (q : FullNodeId) → Some q ≡ parent_of (world_at n) (id_at n) → restricts (data_at n) ≡ false → is_restricted (world_at n) q ≡ false → is_restricted (world_at n) (id_at n) ≡ false
free_by_parent n formed q parent own above =
    ap (λ b. b || list_any (says restricts (world_at n)) (ancestors (world_at n) (id_at n))) (says_shown restricts (world_at n) n refl ∙ own) ∙ ap (list_any (says restricts (world_at n))) (parent_above (world_at n) formed (id_at n) q parent) ∙ above

-- and if it has none
pub free_by_none : (n : NodeRef) → IsFormed (world_at n) → None ≡ parent_of (world_at n) (id_at n) → restricts (data_at n) ≡ false → is_restricted (world_at n) (id_at n) ≡ false
free_by_none n formed none own =
    ap (λ b. b || list_any (says restricts (world_at n)) (ancestors (world_at n) (id_at n))) (says_shown restricts (world_at n) n refl ∙ own) ∙ ap (list_any (says restricts (world_at n))) (nothing_above (world_at n) formed (id_at n) none)

same_truth : (P : Type 0) (a b : Bool) → IsTrue a ↔ P → IsTrue b ↔ P → a ≡ b
same_truth P true b h g = sym (g.1 (h.0 refl))
same_truth P false true h g = h.1 (g.0 refl)
same_truth P false false h g = refl

-- what the test of code says of the focus
pub focus_told : (w v : World) → v ≡ w → IsState v → (id : FullNodeId) (r : Bool) → IsTrue r ↔ IsFocusedNode w id → r ≡ is_focused w id
focus_told w v same s id r h = same_truth (IsFocusedNode w id) r (is_focused w id) h (focused_node_is_found w (subst IsState same s) id)

-- what answers for a node where it is known which nodes are free answers so where that is known of the same world
pub answers_there : (w v : World) (free : Free) (id : FullNodeId) (r : FilterResult) → v ≡ w → AreFree w free → (AreFree v free → r ≡ common_filter v id) → r ≡ common_filter w id
answers_there w v free id r here known answers = answers (subst (λ u. AreFree u free) (sym here) known) ∙ ap (λ u. common_filter u id) here
