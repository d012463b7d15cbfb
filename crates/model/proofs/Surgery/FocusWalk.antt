-- The chain of the focus, walked from graft to graft: where its end is live the rules are kept, and else a fault of the focus stands.
use Rattle.std.proofs.Common.{◌≡◌, ℕ, suc, ◌<◌, length, Some, None, IsSome, option_map, option_and_then, ◌↔◌, ◌⊎◌, inl, inr, refl, sym, ap, ◌∙◌, subst, arith}
use Rattle.std.specs.FinMap.{get}
use Rattle.std.proofs.lemmas.Option.{same_Some}
use Rattle.schema.specs.declared.TreeId.{TreeId}
use Rattle.model.specs.declared.FullNodeId.{FullNodeId}
use Rattle.model.specs.World.{ROOT_NAME, World, Tree, IsNode, data_of, in_tree, index_of, graft_name, root_of, root_named, focus_of, focus_named, Reached, Kept}
use Rattle.model.specs.World as world
use Rattle.model.specs.Focus.{OnChain, first, next, GoesOn}
use Rattle.model.specs.Update.{UpdateData, FocusMissing, Stands, IsNamed, IsOnEmptyGraft, IsRebuild, KeepsRules, merged_world}
use Rattle.model.specs.Surgery.{IsOld, Gone, IsLive, IsPassed, IsDeep, top, inside}
use Rattle.model.proofs.Worlds.Names.{known-index_of}
use Rattle.model.proofs.State.StatePlaces.{IsSome_is, map_some, and_then_some}
use Rattle.model.proofs.Focus.FocusIsOne.{Leads, by_head, ends, leads_to_end, chain_end_unique}
use Rattle.model.proofs.Focus.FocusTrails.{deep_short}
use Rattle.model.proofs.Update.Merges.{index_for_known}
use Rattle.model.proofs.Update.RebuildKeeps.{chain_old, tree_same, graft_same, index_of_same, reached_new, kept_new}
use Rattle.model.proofs.Surgery.Spots.{first_after}
use Rattle.model.proofs.Surgery.RulesKept.{root_ungrafted, grafted_once, passed_apart, passed_keeps}
use Rattle.model.proofs.Surgery.FaultsStand.{lost_unreached}

-- the focus goes on to the declared focus of a present tree
goes_on_parts : (v : World) (g id : FullNodeId) (f : GoesOn v g id) → (inner : FullNodeId) × (root_named v f.name ≡ Some inner) × (inner.tree ≡ id.tree)
goes_on_parts v g id f =
    let k = and_then_some (focus_of v) (index_of v f.name) id f.declared in
    let t = map_some (λ t. in_tree k.0 t.focus) (get v.trees k.0) id k.2 in
    let named : root_named v f.name ≡ Some (in_tree k.0 t.0.root) = ap (option_and_then (root_of v)) k.1 ∙ ap (option_map (λ t. in_tree k.0 t.root)) t.1 in
    (in_tree k.0 t.0.root, named, ap (λ x. x.tree) t.2)

-- in the old world each node on the chain is fewer grafts away from the root tree than there are names
pub old_walk_short : (w : World) → IsOld w → 0 < length w.known → (index n : ℕ) → IsDeep w (IsNode w) index n → n < length w.known
old_walk_short w o some index n deep = deep_short w (IsNode w)
    (λ g name there grafts known. o.root_ungrafted g (grafts ∙ ap Some (o.known_first name (known-index_of w name 0 known))))
    (λ a b name x y f g. o.grafted_once a b name f g) some index n deep

pub old_next_deep : (w : World) (g id : FullNodeId) (n : ℕ) → IsNode w g → GoesOn w g id → IsDeep w (IsNode w) g.tree n → IsDeep w (IsNode w) id.tree (suc n)
old_next_deep w g id n there f deep =
    let p = goes_on_parts w g id f in
    subst (λ k. IsDeep w (IsNode w) k (suc n)) p.2 (inside g p.0 f.name n there deep f.grafts p.1)

module _ (w : World) (u : UpdateData) (o : IsOld w) (c : IsPassed w u) where
  abbrev m : World
  m = merged_world w u

  -- ---- the walk ends

  -- the tree of each node on the chain is fewer live grafts away from the root tree than there are names
  pub first_deep : (t : Tree) → IsDeep m (IsLive w u) (in_tree 0 t.focus).tree 0
  first_deep t = top

  pub next_deep : (g id : FullNodeId) (n : ℕ) → GoesOn m g id → IsDeep m (IsLive w u) g.tree n → IsDeep m (IsLive w u) id.tree (suc n)
  next_deep g id n f deep =
      let p = goes_on_parts m g id f in
      subst (λ k. IsDeep m (IsLive w u) k (suc n)) p.2 (inside g p.0 f.name n (f.kept, f.reached) deep f.grafts p.1)

  pub walk_short : (index n : ℕ) → IsDeep m (IsLive w u) index n → n < length m.known
  walk_short index n deep = deep_short m (IsLive w u)
      (λ g name live grafts known. root_ungrafted w u o c.climbed.refined.removed.settled.compared g (grafts ∙ ap Some (root_name name known)))
      (λ a b name x y f g. grafted_once w u o c a b name (inr x, f) (inr y, g))
      (let k = index_for_known w u in omega arith) index n deep
    where
      root_name : (name : TreeId) → index_of m name ≡ Some 0 → name ≡ ROOT_NAME
      root_name name known = first_after w u o c.climbed.refined.removed.settled.compared.opened name (known-index_of m name 0 known)

  -- ---- where it ends

  -- the end of the chain is live and no graft: (ii) with the rules of the focus
  pub walked_keeps : (e : FullNodeId) → OnChain m e → Reached m e → graft_name m e ≡ None → KeepsRules w u
  walked_keeps e on reached none = passed_keeps w u o c (λ id at. is_reached id (by_head id e (leads_to_end id e at on (ends e none)))) (λ id name at grafts. goes_on id name grafts (by_head id e (leads_to_end id e at on (ends e none))))
    where
      is_reached : (id : FullNodeId) → (id ≡ e) ⊎ ((y : FullNodeId) × GoesOn m id y × Leads m y e) → Reached m id
      is_reached id (inl same) = subst (Reached m) (sym same) reached
      is_reached id (inr h) = h.1.reached

      goes_on : (id : FullNodeId) (name : TreeId) → graft_name m id ≡ Some name → (id ≡ e) ⊎ ((y : FullNodeId) × GoesOn m id y × Leads m y e) → IsSome (root_named m name)
      goes_on id name grafts (inl same) = let no : None ≡ Some name = sym none ∙ ap (graft_name m) (sym same) ∙ grafts in cc
      goes_on id name grafts (inr h) =
          let p = goes_on_parts m id h.0 h.1 in
          let names : h.1.name ≡ name = same_Some h.1.name name (sym h.1.grafts ∙ grafts) in
          IsSome_is p.0 (ap (root_named m) (sym names) ∙ p.1)

  -- a node on the chain that isn't reached is its end, so that the chain comes to no empty graft
  pub unreached_end : (id : FullNodeId) → OnChain m id → ¬ (Reached m id) → (name : TreeId) → ¬ (IsOnEmptyGraft m name)
  unreached_end id on lost name h = lost (subst (Reached m) (chain_end_unique h.0 id h.1 on last (λ y f. lost f.reached)) h.3)
    where
      last : (y : FullNodeId) → ¬ (GoesOn m h.0 y)
      last y f =
          let p = goes_on_parts m h.0 y f in
          let names : f.name ≡ name = same_Some f.name name (sym f.grafts ∙ h.4) in
          let no : Some p.0 ≡ None = sym p.1 ∙ ap (root_named m) names ∙ h.5 in
          cc

  -- pass 7: a node on the chain that isn't named, and goes or wasn't there
  pub lost_focus_stands : (id : FullNodeId) → OnChain m id → ¬ (IsNamed w u id) → (Gone w u id ⊎ ¬ (IsNode w id)) → Stands w u (FocusMissing id.node)
  lost_focus_stands id on other absent =
      let lost : ¬ (Reached m id) = lost_unreached w u o c.climbed id on other absent in
      (passed_apart w u o c, unreached_end id on lost, id, refl, on, lost)

-- ---- the chain of a merged world is that of its rebuild

pub chain_new : {m new : World} → IsRebuild m new → (id : FullNodeId) → OnChain m id → OnChain new id
chain_new r id (first t is) = first t ((r.trees 0 t).1 (world.Kept.root, is))
chain_new {m} {new} r id (next graft id' on goes) =
    let k = and_then_some (focus_of m) (index_of m goes.name) id goes.declared in
    let t = map_some (λ t. in_tree k.0 t.focus) (get m.trees k.0) id k.2 in
    let named : root_named m goes.name ≡ Some (in_tree k.0 t.0.root) = ap (option_and_then (root_of m)) k.1 ∙ ap (option_map (λ t. in_tree k.0 t.root)) t.1 in
    let kept : Kept m k.0 = world.Kept.grafted graft (in_tree k.0 t.0.root) goes.name goes.kept goes.reached goes.grafts named in
    let declared : focus_named new goes.name ≡ Some id = ap (option_and_then (focus_of new)) (index_of_same r goes.name ∙ k.1) ∙ ap (option_map (λ t. in_tree k.0 t.focus)) (tree_same r k.0 kept) ∙ k.2 in
    next graft id (chain_new r graft on) (record {
      kept = kept_new r graft.tree goes.kept;
      reached = reached_new r graft goes.reached goes.kept;
      name = goes.name;
      grafts = graft_same r graft goes.kept goes.reached ∙ goes.grafts;
      declared = declared;
    })

pub chain_iff : {m new : World} → IsRebuild m new → (id : FullNodeId) → OnChain m id ↔ OnChain new id
chain_iff r id = (chain_new r id, chain_old r id)
