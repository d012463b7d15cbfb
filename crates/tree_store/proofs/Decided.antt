-- What a decision asks of the steps of its commit.
use Rattle.std.proofs.Common.{◌≡◌, ◌≢◌, ℕ, zero, suc, ◌<◌, length, map, get_or, List, [], ◌∷◌, ◌++◌, ◌||◌, Bool, true, false, not, cond, Option, Some, None, refl, sym, ap, subst, ◌∙◌, arith}
use Rattle.std.specs.Prelude.{is_some, is_none, IfSome, All, AllPairs, slice_get, option_and_then, if◌then◌else◌}
use Rattle.std.specs.Option.{option_map_or}
use Rattle.std.specs.Cmp.{tied_itself}
use Rattle.std.specs.Ordering.{nat_cmp, is_eq}
use Rattle.std.specs.Cmp.Lexicographic.{slice_cmp}
use Rattle.std.proofs.lemmas.Map.Entries.{length-keys_of}
use Rattle.std.proofs.lemmas.Option.{slice_get_within}
use Rattle.schema.specs.NodeData.{NodeData}
use Rattle.schema.specs.UpdateData.{InfoData}
use Rattle.schema.specs.declared.NodeId.{NodeId}
use Rattle.schema.specs.declared.TreeId.{TreeId}
use Rattle.model.specs.declared.FullNodeId.{FullNodeId}
use Rattle.model.specs.FullIds.{full_cmp, full_total}
use Rattle.model.specs.World.{World, index_of}
use Rattle.model.specs.Update.{UpdateData, index_for, known_after, named_at}
use Rattle.model.proofs.Worlds.Names.{same_id, known-index_of, is_name-true, is_name-itself}
use Rattle.tree_changes.specs.declared.look_ups.TreeRecord.{TreeRecord}
use Rattle.tree_changes.specs.declared.decision.NodeChange.{NodeChange}
use Rattle.tree_changes.specs.declared.decision.NodeChange.TheVariants.{Put, Gone}
use Rattle.tree_changes.specs.declared.decision.Decision.{Decision}
use Rattle.tree_changes.specs.Changes.{overlaid_world, tree_change, tree_after, if_kept, entry_of}
use Rattle.tree_changes.specs.LookUps.{IsTreeRecord}
use Rattle.tree_changes.specs.Decisions.{FindsData, IsDecision}
use Rattle.tree_store.specs.Commits.{with_name, texts_after, HasEntries, AreEntriesApart}
use Rattle.tree_store.proofs.Searches.{found, below_by}
use Rattle.tree_store.proofs.WrittenSlots.{if_some}

same_node : (a b : NodeId) (o : Option NodeId) → o ≡ Some a → o ≡ Some b → a ≡ b
same_node a b o e f = let j : Some a ≡ Some b = sym e ∙ f in cc

pub none_is : {X : Type 0} (b : Bool) (o : Option X) → is_some o ≡ not b → b ≡ is_none o
none_is true None e = refl
none_is false None e = cc
none_is true (Some x) e = cc
none_is false (Some x) e = refl

pub texts_same : (b : Bool) (o : Option InfoData) (t : Option (List ℕ) × Option (List ℕ)) → texts_after (if b then o else None) t ≡ option_map_or (λ info. if b then (info.toolkit_name, info.toolkit_version) else t) o t
texts_same true None t = refl
texts_same true (Some info) t = refl
texts_same false None t = refl
texts_same false (Some info) t = refl

pub names_same : (w : World) (name : TreeId) → with_name (is_none (index_of w name)) w.known name ≡ known_after w name
names_same w name = go (index_of w name)
  where
    go : (o : Option ℕ) → with_name (is_none o) w.known name ≡ option_map_or (λ _. w.known) o (w.known ++ name ∷ [])
    go None = refl
    go (Some i) = refl

-- the record that is found of a name is the one that has it
pub own_change : (rs : List TreeRecord) → AllPairs (λ a b. a.id ≢ b.id) rs → (k : ℕ) (d : TreeRecord) → k < length rs → tree_change rs (get_or rs k d).id ≡ Some (get_or rs k d)
own_change [] once k d less = absurd (omega (arith, less))
own_change (r ∷ rs) once zero d less = ap (λ b. cond b (Some r) (tree_change rs r.id)) (is_name-itself r.id)
own_change (r ∷ rs) once (suc k) d less = go (is_eq (slice_cmp nat_cmp r.id.0 (get_or rs k d).id.0)) refl (own_change rs (λ i j e l m. once (suc i) (suc j) e (omega (arith, l)) (omega (arith, m))) k d (omega (arith, less)))
  where
    go : (b : Bool) → is_eq (slice_cmp nat_cmp r.id.0 (get_or rs k d).id.0) ≡ b → tree_change rs (get_or rs k d).id ≡ Some (get_or rs k d) → cond b (Some r) (tree_change rs (get_or rs k d).id) ≡ Some (get_or rs k d)
    go true e h = absurd (once 0 (suc k) d (omega arith) (omega (arith, less)) (is_name-true (get_or rs k d).id r.id e))
    go false e h = h

module _ (w : World) (u : UpdateData) (d : Decision) (decided : IsDecision w u d) where
  entry_found : (id : FullNodeId) (c : NodeChange) → FindsData w u id c → (k : ℕ) → entry_of c ≡ Some k → (id.tree ≡ index_for w u.name) × (named_at u k ≡ Some id.node)
  entry_found id (Put place (Some e)) f k is = let j : e ≡ k = cc in (f.0, ap (named_at u) (sym j) ∙ f.1)
  entry_found id (Put place None) f k is = cc
  entry_found id Gone f k is = cc

  at_index : (i : ℕ) (e : FullNodeId × NodeChange) → i < length d.nodes.items → (k : ℕ) → entry_of (get_or d.nodes.items i e).1 ≡ Some k → ((get_or d.nodes.items i e).0.tree ≡ index_for w u.name) × (named_at u k ≡ Some (get_or d.nodes.items i e).0.node)
  at_index i e less = entry_found (get_or d.nodes.items i e).0 (get_or d.nodes.items i e).1 (decided.changes (get_or d.nodes.items i e).0 (get_or d.nodes.items i e).1 (found d.nodes.items decided.ascending (get_or d.nodes.items i e).0 i e less (tied_itself full_total (get_or d.nodes.items i e).0))).data_found

  within : (nodes : List (NodeId × NodeData)) (k : ℕ) (n : NodeId) → slice_get (map (λ e. e.0) nodes) k ≡ Some n → k < length nodes
  within nodes k n at = subst (λ m. k < m) (length-keys_of nodes) (slice_get_within (map (λ e. e.0) nodes) k n at)

  pub has_entries : HasEntries u.nodes d.nodes.items
  has_entries i e less = if_some (entry_of (get_or d.nodes.items i e).1) (λ k is. within u.nodes k (get_or d.nodes.items i e).0.node (at_index i e less k is).1)

  pub entries_apart : AreEntriesApart d.nodes.items
  entries_apart i j e less end k own other =
      let a = at_index i e (omega (arith, less, end)) k own in
      let b = at_index j e end k other in
      let same : (get_or d.nodes.items i e).0 ≡ (get_or d.nodes.items j e).0 = same_id _ _ (a.0 ∙ sym b.0) (same_node _ _ (named_at u k) a.1 b.1) in
      let below = below_by d.nodes.items decided.ascending (get_or d.nodes.items i e).0 i j e less end in
      let tied = tied_itself full_total (get_or d.nodes.items i e).0 in
      let bad = sym (ap (full_cmp (get_or d.nodes.items i e).0) same) ∙ tied in
      cc

  pub indexes_known : ((name : TreeId) → (before : Option TreeRecord) × IsTreeRecord w name before) → All (λ r. IfSome r.index (λ i. i < length (known_after w u.name))) d.trees.items
  indexes_known records k e less =
      let r = get_or d.trees.items k e in
      let before = records r.id in
      let own = own_change d.trees.items decided.trees_once k e less in
      let after : tree_after d.trees.items r.id before.0 ≡ if_kept r = ap (λ o. option_map_or if_kept o before.0) own in
      if_some r.index (λ i is.
      let kept : if_kept r ≡ Some r = by_index r i is in
      let at : index_of (overlaid_world w u d) r.id ≡ Some i = sym (decided.trees r.id before.0 before.1).index ∙ ap (option_and_then (λ (t : TreeRecord). t.index)) (after ∙ kept) ∙ is in
      slice_get_within (known_after w u.name) i r.id (known-index_of (overlaid_world w u d) r.id i at))
    where
      by_index : (r : TreeRecord) (i : ℕ) → r.index ≡ Some i → if_kept r ≡ Some r
      by_index r i is = ap (λ b. cond b (Some r) None) (ap (λ o. is_some o || is_some r.graft) is)
