-- A rebuilt world has its merged world's kept trees, reached nodes and chain of the focus.
use Rattle.std.proofs.Common.{◌≡◌, ℕ, slice_get, Some, IsSome, option_map, option_and_then, sym, ap, ◌∙◌, subst}
use Rattle.std.specs.FinMap.{get}
use Rattle.schema.specs.declared.TreeId.{TreeId}
use Rattle.model.specs.declared.FullNodeId.{FullNodeId}
use Rattle.model.specs.World.{World, Tree, IsNode, HasData, data_of, in_tree, index_of, listed_ids, graft_name, root_of, focus_of, root_named, focus_named, Place, Reached, Kept}
use Rattle.model.specs.World as world
use Rattle.model.specs.Focus.{OnChain, first, next}
use Rattle.model.specs.Update.{IsRebuild}
use Rattle.model.specs.State.{Lists}
use Rattle.model.proofs.Update.RebuildIsOne.{same_values}
use Rattle.model.proofs.State.StatePlaces.{map_some, and_then_some, IsSome_is, value_of, root_of_parts, root_named_parts, listed_tree}

-- the tree of a reached node is present
pub reached_present : (w : World) (id : FullNodeId) → Reached w id → IsSome (get w.trees id.tree)
reached_present w id (world.Reached.root index t is) = IsSome_is t is
reached_present w id (world.Reached.child parent id' index reached at) = subst (λ k. IsSome (get w.trees k)) (sym (listed_tree w (parent, index) id at)) (reached_present w parent reached)

-- the trees on the chain of the focus are kept
pub chain_kept : (w : World) (id : FullNodeId) → OnChain w id → Kept w id.tree
chain_kept w id (first t is) = world.Kept.root
chain_kept w id (next graft id' on goes) =
    let i = and_then_some (focus_of w) (index_of w goes.name) id goes.declared in
    let t = map_some (λ t. in_tree i.0 t.focus) (get w.trees i.0) id i.2 in
    let inner : FullNodeId = in_tree i.0 t.0.root in
    let named : root_named w goes.name ≡ Some inner = ap (option_and_then (root_of w)) i.1 ∙ ap (option_map (λ t. in_tree i.0 t.root)) t.1 in
    subst (Kept w) (ap (λ x. x.tree) t.2) (world.Kept.grafted graft inner goes.name goes.kept goes.reached goes.grafts named)

module _ {m new : World} (r : IsRebuild m new) where
  pub index_of_same : (name : TreeId) → index_of new name ≡ index_of m name
  index_of_same name = rw (r.known)

  pub data_same : (id : FullNodeId) → Kept m id.tree → Reached m id → data_of new id ≡ data_of m id
  data_same id kept reached = same_values _ _ _ (r.nodes id) (λ d. (λ has. (kept, reached, has), λ k. k.2))

  pub tree_same : (index : ℕ) → Kept m index → get new.trees index ≡ get m.trees index
  tree_same index kept = same_values _ _ _ (r.trees index) (λ t. (λ is. (kept, is), λ k. k.1))

  pub listed_same : (id : FullNodeId) → Kept m id.tree → Reached m id → listed_ids new id ≡ listed_ids m id
  listed_same id kept reached = rw (data_same id kept reached)

  pub graft_same : (id : FullNodeId) → Kept m id.tree → Reached m id → graft_name new id ≡ graft_name m id
  graft_same id kept reached = rw (data_same id kept reached)

  pub node_kept : (id : FullNodeId) → IsNode new id → Kept m id.tree × Reached m id
  node_kept id there = let d = value_of (data_of new id) there in let k = (r.nodes id d.0).0 d.1 in (k.0, k.1)

  pub node_old : (id : FullNodeId) → IsNode new id → IsNode m id
  node_old id there = let d = value_of (data_of new id) there in IsSome_is d.0 ((r.nodes id d.0).0 d.1).2

  pub node_new : (id : FullNodeId) → Kept m id.tree → Reached m id → IsNode m id → IsNode new id
  node_new id kept reached there = rw (data_same id kept reached) there

  pub tree_kept : (index : ℕ) → IsSome (get new.trees index) → Kept m index
  tree_kept index there = let t = value_of (get new.trees index) there in ((r.trees index t.0).0 t.1).0

  -- what a node of the new world lists, it lists in the merged one
  pub lists_old : (p : Place) (id : FullNodeId) → IsNode new p.0 → Lists new p id → Lists m p id
  lists_old p id there at = let k = node_kept p.0 there in subst (λ xs. slice_get xs p.1 ≡ Some id) (listed_same p.0 k.0 k.1) at

  pub grafts_old : (id : FullNodeId) (name : TreeId) → IsNode new id → graft_name new id ≡ Some name → graft_name m id ≡ Some name
  grafts_old id name there is = let k = node_kept id there in sym (graft_same id k.0 k.1) ∙ is

  pub root_of_old : (index : ℕ) (id : FullNodeId) → root_of new index ≡ Some id → root_of m index ≡ Some id
  root_of_old index id is = let t = root_of_parts new index id is in ap (option_map (λ t. in_tree index t.root)) (sym (tree_same index (tree_kept index (IsSome_is t.0 t.1)))) ∙ is

  pub root_named_new : (name : TreeId) (id : FullNodeId) → Kept m id.tree → root_named m name ≡ Some id → root_named new name ≡ Some id
  root_named_new name id kept is =
      let f = root_named_parts m name id is in
      ap (option_and_then (root_of new)) (index_of_same name ∙ f.0) ∙ ap (option_map (λ t. in_tree id.tree t.root)) (tree_same id.tree kept) ∙ f.1

  pub reached_new : (id : FullNodeId) → Reached m id → Kept m id.tree → Reached new id
  reached_new id (world.Reached.root index t is) kept = world.Reached.root index t ((r.trees index t).1 (kept, is))
  reached_new id (world.Reached.child parent id' index reached at) kept =
      let above : Kept m parent.tree = subst (Kept m) (listed_tree m (parent, index) id at) kept in
      world.Reached.child parent id index (reached_new parent reached above) (subst (λ xs. slice_get xs index ≡ Some id) (sym (listed_same parent above reached)) at)

  pub reached_old : (id : FullNodeId) → Reached new id → Kept m id.tree × Reached m id
  reached_old id (world.Reached.root index t is) = let k = (r.trees index t).0 is in (k.0, world.Reached.root index t k.1)
  reached_old id (world.Reached.child parent id' index reached at) =
      let above = reached_old parent reached in
      let same = listed_same parent above.0 above.1 in
      (subst (Kept m) (sym (listed_tree new (parent, index) id at)) above.0, world.Reached.child parent id index above.1 (subst (λ xs. slice_get xs index ≡ Some id) same at))

  pub kept_new : (index : ℕ) → Kept m index → Kept new index
  kept_new index world.Kept.root = world.Kept.root
  kept_new index (world.Kept.grafted graft inner name kept reached grafts named) =
      world.Kept.grafted graft inner name (kept_new graft.tree kept) (reached_new graft reached kept) (graft_same graft kept reached ∙ grafts)
      (root_named_new name inner (world.Kept.grafted graft inner name kept reached grafts named) named)

  pub chain_old : (id : FullNodeId) → OnChain new id → OnChain m id
  chain_old id (first t is) = first t ((r.trees 0 t).0 is).1
  chain_old id (next graft id' on goes) =
      let k = reached_old graft goes.reached in
      let i = and_then_some (focus_of new) (index_of new goes.name) id goes.declared in
      let t = map_some (λ t. in_tree i.0 t.focus) (get new.trees i.0) id i.2 in
      let old : get m.trees i.0 ≡ Some t.0 = ((r.trees i.0 t.0).0 t.1).1 in
      let known : index_of m goes.name ≡ Some i.0 = sym (index_of_same goes.name) ∙ i.1 in
      let declared : focus_named m goes.name ≡ Some id = ap (option_and_then (focus_of m)) known ∙ ap (option_map (λ t. in_tree i.0 t.focus)) old ∙ ap Some t.2 in
      next graft id (chain_old graft on) (record { kept = k.0; reached = k.1; name = goes.name; grafts = sym (graft_same graft k.0 k.1) ∙ goes.grafts; declared = declared })
