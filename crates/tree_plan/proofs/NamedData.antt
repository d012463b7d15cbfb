-- What holds of the old and the new data of each node that an update names, and of all data and themselves, holds of each node.
use Rattle.std.proofs.Common.{◌≡◌, ℕ, map, slice_get, Some, option_map, ◌⊎◌, inl, inr, ⊎_elim, sym, ap, ◌∙◌, subst}
use Rattle.std.proofs.lemmas.Option.{same_Some, slice_get-map}
use Rattle.schema.specs.NodeData.{NodeData}
use Rattle.schema.specs.declared.NodeId.{NodeId}
use Rattle.model.specs.declared.FullNodeId.{FullNodeId}
use Rattle.model.specs.World.{World, IsNode, HasData, data_of, in_tree}
use Rattle.model.specs.Update.{UpdateData, IsNamed, index_for, merged_world}
use Rattle.model.proofs.Worlds.Names.{same_id}
use Rattle.model.proofs.Closure.{IsDecided}
use Rattle.model.proofs.State.StatePlaces.{IsSome_is, value_of, map_some}
use Rattle.model.proofs.Update.AcceptedOrFault.{decide_named}
use Rattle.model.proofs.Surgery.Spots.{unnamed_data}
use Rattle.tree_plan.specs.News.{IsNamedOnce}
use Rattle.tree_plan.proofs.Entries.{entry_named}
use Rattle.tree_plan.proofs.IdMaps.{at_contains}

-- the old and the new data of a node are so related
abbrev pub HasBoth : (w : World) (u : UpdateData) (R : NodeData → NodeData → Type 0) (id : FullNodeId) → Type 0
HasBoth w u R id = (old d : NodeData) × HasData w id old × HasData (merged_world w u) id d × R old d

-- what holds of each entry holds of each node that the update names
pub named_both : (w : World) (u : UpdateData) (R : NodeData → NodeData → Type 0) → IsNamedOnce u →
    ((k : ℕ) (e : NodeId × NodeData) → slice_get u.nodes k ≡ Some e →
    (old : NodeData) × HasData w (in_tree (index_for w u.name) e.0) old × R old e.1) →
    (id : FullNodeId) → IsNamed w u id → HasBoth w u R id
named_both w u R once keep id named =
    let ids = λ (e : NodeId × NodeData). e.0 in
    let k = at_contains (map ids u.nodes) id.node named.1 in
    let e = map_some ids (slice_get u.nodes k.0) id.node (sym (slice_get-map ids u.nodes k.0) ∙ k.1) in
    let here : in_tree (index_for w u.name) e.0.0 ≡ id = same_id (in_tree (index_for w u.name) e.0.0) id (sym named.0) e.2 in
    let old = keep k.0 e.0 e.1 in (
      old.0,
      e.0.1,
      subst (λ x. HasData w x old.0) here old.1,
      entry_named w u id k.0 once named.0 k.1 ∙ ap (option_map (λ (e : NodeId × NodeData). e.1)) e.1,
      old.2,
    )

module _ (w : World) (u : UpdateData) (R : NodeData → NodeData → Type 0) (same : (d : NodeData) → R d d)
    (named : (id : FullNodeId) → IsNamed w u id → HasBoth w u R id) where
  pub any_data : (id : FullNodeId) → (data_of (merged_world w u) id ≡ data_of w id) ⊎ HasBoth w u R id
  any_data id = go (decide_named w u id)
    where
      go : IsDecided (IsNamed w u id) → (data_of (merged_world w u) id ≡ data_of w id) ⊎ HasBoth w u R id
      go (inl here) = inr (named id here)
      go (inr other) = inl (unnamed_data w u id other)

  pub data_now : (id : FullNodeId) (old : NodeData) → HasData w id old → (d : NodeData) × HasData (merged_world w u) id d × R old d
  data_now id old was = ⊎_elim
      (λ kept. (old, kept ∙ was, same old))
      (λ x. (x.1, x.3, subst (λ y. R y x.1) (same_Some x.0 old (sym x.2 ∙ was)) x.4))
      (any_data id)

  pub data_then : (id : FullNodeId) (d : NodeData) → HasData (merged_world w u) id d → (old : NodeData) × HasData w id old × R old d
  data_then id d now = ⊎_elim
      (λ kept. (d, sym kept ∙ now, same d))
      (λ x. (x.0, x.2, subst (R x.0) (same_Some x.1 d (sym x.3 ∙ now)) x.4))
      (any_data id)

  pub node_then : (id : FullNodeId) → IsNode (merged_world w u) id → IsNode w id
  node_then id there =
      let d = value_of (data_of (merged_world w u) id) there in let x = data_then id d.0 d.1 in IsSome_is x.0 x.1
