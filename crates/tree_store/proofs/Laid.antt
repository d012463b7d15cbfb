-- What is read of a world with an update's changes over it.
use Rattle.std.proofs.Common.{◌≡◌, ℕ, map, Option, Some, None, refl, sym, ap, subst, ◌∙◌}
use mathlib.Core.Logic.{∥∥₁_elim, ∥∥₁_map}
use Rattle.std.specs.Prelude.{IsSome, IfSome, option_and_then}
use Rattle.std.specs.Option.{option_map}
use Rattle.std.specs.Coded.{Coded-set, coded_option, coded×, coded_ℕ, ×_prop, Π_prop, →_prop}
use Rattle.std.specs.FinMap.{get}
use Rattle.std.specs.List.Sorted.{IsStrictlySortedBy, IsStrictlySortedBy-prop}
use Rattle.schema.specs.declared.NodeId.{NodeId}
use Rattle.schema.specs.declared.TreeId.{TreeId}
use Rattle.model.specs.declared.FullNodeId.{FullNodeId}
use Rattle.model.specs.FullIds.{full_cmp, coded_full}
use Rattle.model.proofs.Worlds.Names.{index_of-known}
use Rattle.model.specs.World.{ROOT_NAME, World, Tree, Place, data_of, child_at, index_of, root_of, root_named, in_tree}
use Rattle.model.specs.Focus.{IsEffectiveFocus}
use Rattle.model.specs.FocusFound.{effective_focus}
use Rattle.model.specs.State.{IsState}
use Rattle.model.specs.Update.{UpdateData}
use Rattle.model.proofs.Update.UpdateLeavesState.{update_leaves_state}
use Rattle.model.proofs.Focus.FocusIsFound.{focus_is_found}
use Rattle.model.proofs.State.StatesKept.{state_kept}
use Rattle.tree_changes.specs.declared.look_ups.TreeRecord.{TreeRecord}
use Rattle.tree_changes.specs.declared.decision.NodeChange.{NodeChange}
use Rattle.tree_changes.specs.declared.decision.Decision.{Decision}
use Rattle.tree_changes.specs.Changes.{change_at, place_in, overlaid_world, tree_after}
use Rattle.tree_changes.specs.LookUps.{IsPlaceOf, IsTreeRecord, tree_named}
use Rattle.tree_changes.specs.Decisions.{IsDecision}
use Rattle.tree_store.specs.declared.records.Kept.{Kept}
use Rattle.tree_store.specs.Overlays.{root_recorded}
use Rattle.tree_changes.proofs.Overlays.{effect, get-put_all}

-- that a node stands at a place is an equation
pub place_is_prop : (w : World) (id : FullNodeId) (place : Option Place) → IsProp (IsPlaceOf w id place)
place_is_prop w id place = Π_prop (λ p. ×_prop (→_prop (Coded-set (coded_option coded_full) (child_at w p) (Some id))) (→_prop (Coded-set (coded_option (coded× coded_full coded_ℕ)) place (Some p))))

by_tree : (i : ℕ) (o : Option Tree) → option_map (in_tree i) (option_map (λ t. t.root) o) ≡ option_map (λ t. in_tree i t.root) o
by_tree i None = refl
by_tree i (Some x) = refl

by_index : (v : World) (index : Option ℕ) (root : Option NodeId) → root ≡ option_map (λ t. t.root) (option_and_then (λ i. get v.trees i) index) → option_and_then (λ i. option_map (in_tree i) root) index ≡ option_and_then (root_of v) index
by_index v None root is = refl
by_index v (Some i) root is = ap (option_map (in_tree i)) is ∙ by_tree i (get v.trees i)

root_of_record : (v : World) (name : TreeId) (r : Option TreeRecord) → option_and_then (λ t. t.index) r ≡ index_of v name → option_and_then (λ t. t.root) r ≡ option_map (λ t. t.root) (tree_named v name) → root_recorded r ≡ root_named v name
root_of_record v name None index root = ap (option_and_then (root_of v)) index
root_of_record v name (Some t) index root =
    by_index v t.index t.root (root ∙ ap (λ o. option_map (λ (x : Tree). x.root) (option_and_then (λ i. get v.trees i) o)) (sym index)) ∙ ap (option_and_then (root_of v)) index

module _ (w : World) (u : UpdateData) (d : Decision) where
  -- the data of a node: where it changes those of the change, and else those below
  pub data_laid : (id : FullNodeId) → data_of (overlaid_world w u d) id ≡ effect u.nodes (change_at d.nodes.items id) (data_of w id)
  data_laid id = get-put_all u.nodes w.nodes d.nodes.items id

  pub data_by : (id : FullNodeId) (o : Option NodeChange) → o ≡ change_at d.nodes.items id → effect u.nodes o (data_of w id) ≡ data_of (overlaid_world w u d) id
  data_by id o e = ap (λ x. effect u.nodes x (data_of w id)) e ∙ sym (data_laid id)

  module _ (t : ∥ IsDecision w u d ∥₁) where
    pub ascending : IsStrictlySortedBy full_cmp (map (λ e. e.0) d.nodes.items)
    ascending = ∥∥₁_elim t (IsStrictlySortedBy-prop full_cmp (map (λ e. e.0) d.nodes.items)) (λ k. k.ascending)

    pub state_laid : IsState w → IsState (overlaid_world w u d)
    state_laid s = state_kept (overlaid_world w u d) (∥∥₁_map t (λ k. update_leaves_state w u (overlaid_world w u d) s k.accepted))

    pub place_changed : (id : FullNodeId) (c : NodeChange) → change_at d.nodes.items id ≡ Some c → IsPlaceOf (overlaid_world w u d) id (place_in c)
    place_changed id c e = ∥∥₁_elim t (place_is_prop (overlaid_world w u d) id (place_in c)) (λ k. (k.changes id c e).place)

    pub place_kept : (id : FullNodeId) (place : Option Place) → change_at d.nodes.items id ≡ None → IsPlaceOf w id place → IsPlaceOf (overlaid_world w u d) id place
    place_kept id place e is =
        ∥∥₁_elim t (place_is_prop (overlaid_world w u d) id place) (λ k p. ((λ at. k.others id p e ((is p).0 at)), (λ at. (is p).1 (k.others_back id p e at))))

    pub placed_changed : (id : FullNodeId) (c : NodeChange) (found : Option Kept) → change_at d.nodes.items id ≡ Some c → IfSome found (λ r. r.place.now ≡ place_in c) → IfSome found (λ r. IsPlaceOf (overlaid_world w u d) id r.place.now)
    placed_changed id c None e h = h
    placed_changed id c (Some r) e h = subst (IsPlaceOf (overlaid_world w u d) id) (sym h) (place_changed id c e)

    pub placed_kept : (id : FullNodeId) (found : Option Kept) → change_at d.nodes.items id ≡ None → IfSome found (λ r. IsPlaceOf w id r.place.now) → IfSome found (λ r. IsPlaceOf (overlaid_world w u d) id r.place.now)
    placed_kept id None e h = h
    placed_kept id (Some r) e h = place_kept id r.place.now e h

    pub focus_laid : IsState w → IsEffectiveFocus (overlaid_world w u d) d.focus
    focus_laid s =
        let f = focus_is_found (overlaid_world w u d) (state_laid s) d.focus in
        f.0 (∥∥₁_elim t (Coded-set (coded_option coded_full) (effective_focus (overlaid_world w u d)) (Some d.focus)) (λ k. f.1 k.focus))

    module _ (name : TreeId) (before : Option TreeRecord) (is_before : IsTreeRecord w name before) where
      pub index_laid : option_and_then (λ r. r.index) (tree_after d.trees.items name before) ≡ index_of (overlaid_world w u d) name
      index_laid = ∥∥₁_elim t (Coded-set (coded_option coded_ℕ) (option_and_then (λ r. r.index) (tree_after d.trees.items name before)) (index_of (overlaid_world w u d) name)) (λ k. (k.trees name before is_before).index)

      pub root_laid : root_recorded (tree_after d.trees.items name before) ≡ root_named (overlaid_world w u d) name
      root_laid =
          ∥∥₁_elim t (Coded-set (coded_option coded_full) (root_recorded (tree_after d.trees.items name before)) (root_named (overlaid_world w u d) name))
          (λ k. let r = k.trees name before is_before in root_of_record (overlaid_world w u d) name (tree_after d.trees.items name before) r.index r.root)

-- in a state the root tree's name has index 0
pub root_at : (v : World) → IsState v → root_named v ROOT_NAME ≡ root_of v 0
root_at v s = ap (option_and_then (root_of v)) (index_of-known v ROOT_NAME 0 s.known_once s.known_first)

no_tree : (o : Option Tree) → IsSome o → None ≡ option_map (λ t. in_tree 0 t.root) o → ⊥
no_tree None there e = cc
no_tree (Some t) there e = cc

pub root_there : (v : World) → IsState v → None ≡ root_of v 0 → ⊥
root_there v s e = no_tree (get v.trees 0) s.root_present e
