-- An accepted update has the five numbers of its work.
use Rattle.std.proofs.Common.{◌≡◌, ℕ, ◌+◌, List, [], ◌∷◌, length, map, slice_get, Contains, Some, ◌⊎◌, inl, inr, ⊎_elim, refl, sym, ap, subst}
use Rattle.std.specs.Option.{option_map}
use Rattle.schema.specs.NodeData.{NodeData}
use Rattle.schema.specs.declared.NodeId.{NodeId}
use Rattle.model.specs.declared.FullNodeId.{FullNodeId}
use Rattle.model.specs.World.{World, IsNode, in_tree, listed_ids, Place, Reached}
use Rattle.model.specs.World as world
use Rattle.model.specs.Update.{UpdateData, IsNamed, IsAccepted, KeepsRules, index_for, merged_world}
use Rattle.model.specs.State.{IsState, Lists}
use Rattle.model.specs.Surgery.{IsOld, IsOpened}
use Rattle.model.specs.Work.{Work, HasDepthInTree, at_root, at_child, IsSumOfDepths, IsChildOfNamed, IsWorkOf, named_ids}
use Rattle.model.proofs.Update.UpdateLeavesState.{update_leaves_state}
use Rattle.model.proofs.Closure.{IsDecided}
use Rattle.model.proofs.Differences.DifferencesExist.{list_of, ids_of, ids_sorted, among_ids, added_exist}
use Rattle.model.proofs.Members.{contains_cases, contains_first, contains_head, contains_later, contains_none}
use Rattle.model.proofs.Surgery.OldWorlds.{state_old}
use Rattle.model.proofs.Update.RebuildIsThere.{decide_listed}
use Rattle.model.proofs.Update.RebuildKeeps.{node_new, node_old}
use Rattle.model.proofs.Update.RulesOrFault.{rules_or_fault}
use Rattle.model.proofs.Surgery.Spots.{node_stays, named_is_node}
use Rattle.model.proofs.Surgery.LiveAndGone.{named_kept}

-- what is reached has a depth in its tree
pub depth_exists : (w : World) (id : FullNodeId) → Reached w id → (depth : ℕ) × HasDepthInTree w id depth
depth_exists w id (world.Reached.root index t is) = (0, at_root index (in_tree index t.root) (ap (option_map (λ t. in_tree index t.root)) is))
depth_exists w id (world.Reached.child parent id' index reached at) = let above = depth_exists w parent reached in (above.0 + 1, at_child (parent, index) id above.0 above.1 at)

sum_exists : (w : World) (ids : List FullNodeId) → ((id : FullNodeId) → Contains ids id → Reached w id) → (sum : ℕ) × IsSumOfDepths w ids sum
sum_exists w [] reached = (0, refl)
sum_exists w (id ∷ ids) reached =
    let one = depth_exists w id (reached id (contains_first id ids)) in
    let others = sum_exists w ids (λ x c. reached x (contains_later id x ids c)) in
    (one.0 + others.0, (one.0, others.0, one.1, others.1, refl))

named_from : (index : ℕ) (es : List (NodeId × NodeData)) (id : FullNodeId) → Contains (map (λ e. in_tree index e.0) es) id → (id.tree ≡ index) × Contains (map (λ e. e.0) es) id.node
named_from index [] id c = absurd (contains_none id c)
named_from index (e ∷ es) id c = elim (contains_cases (in_tree index e.0) id (map (λ x. in_tree index x.0) es) c) [
  | inl same ↦ (ap (λ x. x.tree) (sym same), contains_head e.0 id.node (map (λ x. x.0) es) (ap (λ x. x.node) same))
  | inr later ↦ let rest = named_from index es id later in (rest.0, contains_later e.0 id.node (map (λ x. x.0) es) rest.1)
]

-- this node lists the child
abbrev IsListedBy : World → FullNodeId → FullNodeId → Type 0
IsListedBy w id child = (i : ℕ) × (slice_get (listed_ids w id) i ≡ Some child)

-- one of these nodes lists the child, in one world or the other
abbrev IsChildOf : World → World → List FullNodeId → FullNodeId → Type 0
IsChildOf v w ids child = (p : Place) × Contains ids p.0 × (Lists v p child ⊎ Lists w p child)

child_decided : (v w : World) (ids : List FullNodeId) (child : FullNodeId) → IsDecided (IsChildOf v w ids child)
child_decided v w [] child = inr (λ h. contains_none h.0.0 h.1)
child_decided v w (id ∷ ids) child = go (decide_listed (listed_ids v id) child) (decide_listed (listed_ids w id) child) (child_decided v w ids child)
  where
    at_this : (x : World) (p : Place) → id ≡ p.0 → Lists x p child → IsListedBy x id child
    at_this x p same at = (p.1, subst (λ y. slice_get (listed_ids x y) p.1 ≡ Some child) (sym same) at)

    go : IsDecided (IsListedBy v id child) → IsDecided (IsListedBy w id child) → IsDecided (IsChildOf v w ids child) → IsDecided (IsChildOf v w (id ∷ ids) child)
    go (inl at) b rest = inl ((id, at.0), contains_first id ids, inl at.1)
    go (inr a) (inl at) rest = inl ((id, at.0), contains_first id ids, inr at.1)
    go (inr a) (inr b) (inl h) = inl (h.0, contains_later id h.0.0 ids h.1, h.2)
    go (inr a) (inr b) (inr none) = inr (λ h. elim (contains_cases id h.0.0 ids h.1) [
      | inl same ↦ ⊎_elim (λ at. a (at_this v h.0 same at)) (λ at. b (at_this w h.0 same at)) h.2
      | inr later ↦ none (h.0, later, h.2)
    ])

opened : {w : World} {u : UpdateData} → KeepsRules w u → IsOpened w u
opened k = record { first_has_info = k.first_has_info; first_for_root = k.first_for_root; later_grafted = k.later_grafted; later_has_info = k.later_has_info; later_has_index = k.later_has_index }

module _ (old : World) (u : UpdateData) (new : World) (o : IsOld old) (a : IsAccepted old u new) (s : IsState new) where
  rules : KeepsRules old u
  rules = (rules_or_fault old u).1 a.0

  -- the named nodes are there afterwards
  named_there : (id : FullNodeId) → IsNamed old u id → IsNode new id
  named_there id named = node_new a.1 id (subst (world.Kept (merged_world old u)) (sym named.0) (named_kept old u o (opened rules))) (rules.named_reached id named) (named_is_node old u id named)

  child_there : (id : FullNodeId) → IsChildOfNamed old u new id → IsNode (merged_world old u) id
  child_there id h = ⊎_elim (λ before. node_stays old u id (o.listed_is_node h.0 id before)) (λ after. node_old a.1 id (s.listed_is_node h.0 id after)) h.2

  -- an accepted update has the numbers of its work
  pub work_exists : (work : Work) × IsWorkOf old u new work
  work_exists =
      let children = list_of (IsChildOfNamed old u new) (child_decided old new (named_ids old u)) (ids_of (merged_world old u)) (ids_sorted (merged_world old u)) (λ id h. among_ids (merged_world old u) id (child_there id h)) in
      let removed = added_exist new old in
      let depths = sum_exists new (named_ids old u) (λ id c. s.node_reached id (named_there id (named_from (index_for old u.name) u.nodes id c))) in
      let work : Work = record { named = length u.nodes; children = length children.0; removed = length removed.0; depths = depths.0; known = length new.known } in (
        work,
        record {
          children = children.0;
          removed = removed.0;
          are_children = children.1;
          are_removed = removed.1;
          count_named = refl;
          count_children = refl;
          count_removed = refl;
          sum_depths = depths.1;
          count_known = refl;
        },
      )

pub state_work_exists : (old new : World) (u : UpdateData) → IsState old → IsAccepted old u new → (work : Work) × IsWorkOf old u new work
state_work_exists old new u s a = work_exists old u new (state_old s) a (update_leaves_state old u new s a)
