-- The worlds to which an update comes are the states, and what there is before the first update.
use Rattle.std.proofs.Common.{Bool, ◌≡◌, ℕ, ◌<◌, List, [], ◌∷◌, length, slice_get, Option, Some, None, IsSome, refl, sym, ap, ◌∙◌, arith}
use Rattle.std.specs.FinMap.{get, get-empty}
use Rattle.std.specs.Ordering.{nat_cmp}
use Rattle.std.proofs.lemmas.Option.{same_Some}
use Rattle.schema.specs.declared.TreeId.{TreeId}
use Rattle.model.specs.declared.FullNodeId.{FullNodeId}
use Rattle.model.specs.FullIds.{full_cmp}
use Rattle.model.specs.World.{ROOT_NAME, World, Tree, IsNode, data_of, in_tree, index_of, listed_ids, graft_name, root_of, root_named, Place, Reached, Kept}
use Rattle.model.specs.World as world
use Rattle.model.specs.Focus.{OnChain, first, next}
use Rattle.model.specs.State.{empty_world, IsState}
use Rattle.model.specs.Surgery.{IsOld}
use Rattle.model.proofs.Worlds.Names.{known-index_of, index_of_once}
use Rattle.model.proofs.State.StatePlaces.{IsSome_is, root_of_parts, root_named_parts, graft_is_node, lister_is_node}
use Rattle.model.proofs.Update.RebuildKeeps.{reached_present}

pub state_old : {w : World} → IsState w → IsOld w
state_old s = record {
  known_first = λ name at. same_Some name ROOT_NAME (sym at ∙ s.known_first);
  known_once = s.known_once;
  known_fit = s.known_fit;
  root_present = λ name at. s.root_present;
  present_known = s.present_known;
  present_kept = s.present_kept;
  node_present = s.node_present;
  node_reached = s.node_reached;
  root_is_node = s.root_is_node;
  listed_is_node = s.listed_is_node;
  listed_once = s.listed_once;
  root_unlisted = s.root_unlisted;
  graft_childless = s.graft_childless;
  root_ungrafted = s.root_ungrafted;
  grafted_once = s.grafted_once;
  focus_is_node = s.focus_is_node;
  focus_goes_on = s.focus_goes_on;
}

nothing : {A : Type 0} (o : Option A) → o ≡ None → IsSome o → ⊥
nothing o e there = cc

pub empty_old : (host : Bool) → IsOld (empty_world host)
empty_old host = record {
  known_first = λ name at. cc;
  known_once = λ i j name at at'. cc;
  known_fit = omega arith;
  root_present = λ name at. cc;
  present_known = λ index there. absurd (no_tree index there);
  present_kept = λ index there. absurd (no_tree index there);
  node_present = λ id there. absurd (no_node id there);
  node_reached = λ id there. absurd (no_node id there);
  root_is_node = λ index id is. absurd (no_root index id is);
  listed_is_node = λ p child at. absurd (no_node p.0 (lister_is_node (empty_world host) p child at));
  listed_once = λ p q child at at'. absurd (no_node p.0 (lister_is_node (empty_world host) p child at));
  root_unlisted = λ p index id is at. no_root index id is;
  graft_childless = λ id name grafts. absurd (no_node id (graft_is_node (empty_world host) id name grafts));
  root_ungrafted = λ id grafts. no_node id (graft_is_node (empty_world host) id ROOT_NAME grafts);
  grafted_once = λ id other name grafts grafts'. absurd (no_node id (graft_is_node (empty_world host) id name grafts));
  focus_is_node = λ id on. absurd (no_chain id on);
  focus_goes_on = λ id name on grafts. absurd (no_chain id on);
}
  where
    no_tree : (index : ℕ) → IsSome (get (empty_world host).trees index) → ⊥
    no_tree index there = nothing (get (empty_world host).trees index) (get-empty nat_cmp index) there

    no_node : (id : FullNodeId) → IsNode (empty_world host) id → ⊥
    no_node id there = nothing (data_of (empty_world host) id) (get-empty full_cmp id) there

    no_root : (index : ℕ) (id : FullNodeId) → root_of (empty_world host) index ≡ Some id → ⊥
    no_root index id is = let t = root_of_parts (empty_world host) index id is in no_tree index (IsSome_is t.0 t.1)

    no_chain : (id : FullNodeId) → OnChain (empty_world host) id → ⊥
    no_chain id (first t is) = no_tree 0 (IsSome_is t is)
    no_chain id (next graft id' on goes) = no_chain graft on

module _ {w : World} (o : IsOld w) where
  root_tree_present : (index : ℕ) → Kept w index → IsSome (get w.trees index) → IsSome (get w.trees 0)
  root_tree_present index world.Kept.root there = there
  root_tree_present index (world.Kept.grafted graft inner name kept reached grafts named) there = root_tree_present graft.tree kept (reached_present w graft reached)

  -- one that has a node is a state
  pub old_state : (id : FullNodeId) → IsNode w id → IsState w
  old_state id there = record {
    known_first = first w.known refl (o.present_known 0 present);
    known_once = o.known_once;
    known_fit = o.known_fit;
    root_present = present;
    present_known = o.present_known;
    present_kept = o.present_kept;
    node_present = o.node_present;
    node_reached = o.node_reached;
    root_is_node = o.root_is_node;
    listed_is_node = o.listed_is_node;
    listed_once = o.listed_once;
    root_unlisted = o.root_unlisted;
    graft_childless = o.graft_childless;
    root_ungrafted = o.root_ungrafted;
    grafted_once = o.grafted_once;
    focus_is_node = o.focus_is_node;
    focus_goes_on = o.focus_goes_on;
  }
    where
      present : IsSome (get w.trees 0)
      present = root_tree_present id.tree (o.present_kept id.tree (o.node_present id there)) (o.node_present id there)

      first : (xs : List TreeId) → w.known ≡ xs → 0 < length w.known → slice_get w.known 0 ≡ Some ROOT_NAME
      first [] e fits = absurd (let none : length w.known ≡ 0 = ap length e in omega arith)
      first (x ∷ xs) e fits = let at : slice_get w.known 0 ≡ Some x = ap (λ k. slice_get k 0) e in at ∙ ap Some (o.known_first x at)

  -- no node of a kept tree grafts its own tree
  pub no_own_graft : (index : ℕ) → Kept w index → (g : FullNodeId) (name : TreeId) → g.tree ≡ index → graft_name w g ≡ Some name → index_of w name ≡ Some index → ⊥
  no_own_graft index world.Kept.root g name same grafts known = o.root_ungrafted g (grafts ∙ ap Some (o.known_first name (known-index_of w name 0 known)))
  no_own_graft index (world.Kept.grafted y inner v kept reached grafts' named) g name same grafts known =
      let names : v ≡ name = index_of_once w v name inner.tree (root_named_parts w v inner named).0 known in
      let one : y ≡ g = o.grafted_once y g name (grafts' ∙ ap Some names) grafts in
      let tree : y.tree ≡ inner.tree = ap (λ x. x.tree) one ∙ same in
      no_own_graft y.tree kept g name (ap (λ x. x.tree) (sym one)) grafts (known ∙ ap Some (sym tree))
