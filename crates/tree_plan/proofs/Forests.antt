-- Worlds that say the same of trees, child lists and grafts.
use Rattle.std.proofs.Common.{◌≡◌, ℕ, slice_get, Option, Some, None, option_map, option_and_then, refl, sym, ap, ◌∙◌}
use Rattle.std.specs.Option.{option_map_or}
use Rattle.std.specs.FinMap.{get}
use Rattle.schema.specs.declared.TreeId.{TreeId}
use Rattle.model.specs.declared.FullNodeId.{FullNodeId}
use Rattle.model.specs.World.{World, Tree, Place, in_tree, index_of, listed_ids, graft_name, root_of, focus_of, root_named, focus_named, at_most_one, children, StandsAt, Reached, Kept}
use Rattle.model.specs.World as world
use Rattle.model.specs.Focus.{OnChain, first, next}
use Rattle.model.specs.State.{Lists}

pub record HaveOneForest (v w : World) : Type 0 where
  pub trees : (q : ℕ) → get v.trees q ≡ get w.trees q
  pub index : (name : TreeId) → index_of v name ≡ index_of w name
  pub lists : (id : FullNodeId) → listed_ids v id ≡ listed_ids w id
  pub grafts : (id : FullNodeId) → graft_name v id ≡ graft_name w id

pub other_way : (v w : World) → HaveOneForest v w → HaveOneForest w v
other_way v w a = record {
  trees = λ q. sym (a.trees q);
  index = λ name. sym (a.index name);
  lists = λ id. sym (a.lists id);
  grafts = λ id. sym (a.grafts id);
}

module _ (v w : World) (a : HaveOneForest v w) where
  pub root_same : (q : ℕ) → root_of v q ≡ root_of w q
  root_same q = ap (option_map (λ (t : Tree). in_tree q t.root)) (a.trees q)

  focus_same : (q : ℕ) → focus_of v q ≡ focus_of w q
  focus_same q = ap (option_map (λ (t : Tree). in_tree q t.focus)) (a.trees q)

  pub root_named_same : (name : TreeId) → root_named v name ≡ root_named w name
  root_named_same name = ap (option_and_then (root_of v)) (a.index name) ∙ go (index_of w name)
    where
      go : (o : Option ℕ) → option_and_then (root_of v) o ≡ option_and_then (root_of w) o
      go None = refl
      go (Some q) = root_same q

  focus_named_same : (name : TreeId) → focus_named v name ≡ focus_named w name
  focus_named_same name = ap (option_and_then (focus_of v)) (a.index name) ∙ go (index_of w name)
    where
      go : (o : Option ℕ) → option_and_then (focus_of v) o ≡ option_and_then (focus_of w) o
      go None = refl
      go (Some q) = focus_same q

  pub tree_named_same : (name : TreeId) → option_and_then (λ i. get v.trees i) (index_of v name) ≡ option_and_then (λ i. get w.trees i) (index_of w name)
  tree_named_same name = ap (option_and_then (λ i. get v.trees i)) (a.index name) ∙ go (index_of w name)
    where
      go : (o : Option ℕ) → option_and_then (λ i. get v.trees i) o ≡ option_and_then (λ i. get w.trees i) o
      go None = refl
      go (Some q) = a.trees q

  pub lists_same : (p : Place) (id : FullNodeId) → Lists v p id → Lists w p id
  lists_same p id at = sym (ap (λ xs. slice_get xs p.1) (a.lists p.0)) ∙ at

  pub grafts_same : (id : FullNodeId) (name : TreeId) → graft_name v id ≡ Some name → graft_name w id ≡ Some name
  grafts_same id name is = sym (a.grafts id) ∙ is

  children_same : (id : FullNodeId) → children v id ≡ children w id
  children_same id =
      ap (λ o. option_map_or (λ name. at_most_one (root_named v name)) o (listed_ids v id)) (a.grafts id)
      ∙ ap (option_map_or (λ name. at_most_one (root_named v name)) (graft_name w id)) (a.lists id)
      ∙ go (graft_name w id)
    where
      go : (o : Option TreeId) → option_map_or (λ name. at_most_one (root_named v name)) o (listed_ids w id) ≡ option_map_or (λ name. at_most_one (root_named w name)) o (listed_ids w id)
      go None = refl
      go (Some name) = ap at_most_one (root_named_same name)

  pub stands_same : (p : Place) (id : FullNodeId) → StandsAt v p id → StandsAt w p id
  stands_same p id at = sym (ap (λ xs. slice_get xs p.1) (children_same p.0)) ∙ at

  pub reached_same : (id : FullNodeId) → Reached v id → Reached w id
  reached_same id (world.Reached.root q t is) = world.Reached.root q t (sym (a.trees q) ∙ is)
  reached_same id (world.Reached.child parent id' k reached at) = world.Reached.child parent id k (reached_same parent reached) (lists_same (parent, k) id at)

  pub kept_same : (q : ℕ) → Kept v q → Kept w q
  kept_same q world.Kept.root = world.Kept.root
  kept_same q (world.Kept.grafted graft inner name kept reached grafts named) =
      world.Kept.grafted graft inner name (kept_same graft.tree kept) (reached_same graft reached) (grafts_same graft name grafts) (sym (root_named_same name) ∙ named)

  pub chain_same : (id : FullNodeId) → OnChain v id → OnChain w id
  chain_same id (first t is) = first t (sym (a.trees 0) ∙ is)
  chain_same id (next graft id' on goes) = next graft id (chain_same graft on) (record {
    kept = kept_same graft.tree goes.kept;
    reached = reached_same graft goes.reached;
    name = goes.name;
    grafts = grafts_same graft goes.name goes.grafts;
    declared = sym (focus_named_same goes.name) ∙ goes.declared;
  })
