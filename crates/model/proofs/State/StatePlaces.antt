-- In a state each node but the root tree's root stands at one place, and parents and children are nodes.
use Rattle.std.proofs.Common.{◌≡◌, ◌≢◌, ℕ, zero, suc, List, [], ◌∷◌, map, slice_get, Option, Some, None, IsSome, option_map, option_and_then, ◌⊎◌, inl, inr, ⊎_elim, refl, sym, ap, ◌∙◌, subst}
use Rattle.std.specs.Option.{option_map_or}
use Rattle.std.specs.FinMap.{get}
use Rattle.std.proofs.lemmas.Option.{same_Some, slice_get-map}
use Rattle.schema.specs.NodeData.{NodeData}
use Rattle.schema.specs.declared.TreeId.{TreeId}
use Rattle.model.specs.declared.FullNodeId.{FullNodeId}
use Rattle.model.specs.World.{ROOT_NAME, World, Tree, IsNode, HasData, data_of, in_tree, index_of, listed_ids, graft_name, root_of, root_named, at_most_one, children, Place, StandsAt, Reached, root, child, Kept}
use Rattle.model.specs.World as world
use Rattle.model.specs.State.{IsState, Lists}
use Rattle.model.proofs.Worlds.Names.{known-index_of, index_of_once}
use Rattle.model.proofs.Forest.PlaceOf.{parent_is_node}

-- where an option's map or step gives something, so did the option
pub map_some : {A B : Type 0} (f : A → B) (o : Option A) (y : B) → option_map f o ≡ Some y → (x : A) × (o ≡ Some x) × (f x ≡ y)
map_some f None y e = cc
map_some f (Some x) y e = (x, refl, same_Some (f x) y e)

pub and_then_some : {A B : Type 0} (f : A → Option B) (o : Option A) (y : B) → option_and_then f o ≡ Some y → (x : A) × (o ≡ Some x) × (f x ≡ Some y)
and_then_some f None y e = cc
and_then_some f (Some x) y e = (x, refl, e)

pub IsSome_is : {A : Type 0} {o : Option A} (x : A) → o ≡ Some x → IsSome o
IsSome_is x e = subst IsSome (sym e) refl

pub value_of : {A : Type 0} (o : Option A) → IsSome o → (x : A) × (o ≡ Some x)
value_of None h = cc
value_of (Some x) h = (x, refl)

-- the root of a tree is in that tree
pub root_of_parts : (w : World) (index : ℕ) (id : FullNodeId) → root_of w index ≡ Some id → (t : Tree) × (get w.trees index ≡ Some t) × (in_tree index t.root ≡ id)
root_of_parts w index id e = map_some (λ t. in_tree index t.root) (get w.trees index) id e

pub root_of-tree : (w : World) (index : ℕ) (id : FullNodeId) → root_of w index ≡ Some id → index ≡ id.tree
root_of-tree w index id e = ap (λ x. x.tree) (root_of_parts w index id e).2

-- the root of the tree of a name is in the tree of that name
pub root_named_parts : (w : World) (name : TreeId) (id : FullNodeId) → root_named w name ≡ Some id → (index_of w name ≡ Some id.tree) × (root_of w id.tree ≡ Some id)
root_named_parts w name id e =
    let f = and_then_some (root_of w) (index_of w name) id e in
    let same : f.0 ≡ id.tree = root_of-tree w f.0 id f.2 in
    (f.1 ∙ ap Some same, ap (root_of w) (sym same) ∙ f.2)

pub listed_tree : (w : World) (p : Place) (id : FullNodeId) → Lists w p id → id.tree ≡ p.0.tree
listed_tree w p id at = by_data (data_of w p.0) at
  where
    by_data : (o : Option NodeData) → slice_get (option_map_or (λ d. map (in_tree p.0.tree) d.children) o []) p.1 ≡ Some id → id.tree ≡ p.0.tree
    by_data None at = cc
    by_data (Some d) at = ap (λ x. x.tree) (sym (map_some (in_tree p.0.tree) (slice_get d.children p.1) id (sym (slice_get-map (in_tree p.0.tree) d.children p.1) ∙ at)).2)

-- what stands at a place is listed there, or is the root of the tree that the parent grafts
pub by_place : (w : World) (p : Place) (id : FullNodeId) → StandsAt w p id → ((graft_name w p.0 ≡ None) × Lists w p id) ⊎ ((name : TreeId) × (graft_name w p.0 ≡ Some name) × (root_named w name ≡ Some id) × (p.1 ≡ 0))
by_place w p id at = by_graft (graft_name w p.0) refl at
  where
    only : (o : Option FullNodeId) (i : ℕ) → slice_get (at_most_one o) i ≡ Some id → (o ≡ Some id) × (i ≡ 0)
    only None i e = cc
    only (Some x) zero e = (e, refl)
    only (Some x) (suc i) e = cc

    by_graft : (o : Option TreeId) → graft_name w p.0 ≡ o → slice_get (option_map_or (λ name. at_most_one (root_named w name)) o (listed_ids w p.0)) p.1 ≡ Some id → ((graft_name w p.0 ≡ None) × Lists w p id) ⊎ ((name : TreeId) × (graft_name w p.0 ≡ Some name) × (root_named w name ≡ Some id) × (p.1 ≡ 0))
    by_graft None is at = inl (is, at)
    by_graft (Some name) is at = let f = only (root_named w name) p.1 at in inr (name, is, f.0, f.1)

pub stands_listed : (w : World) (p : Place) (id : FullNodeId) → graft_name w p.0 ≡ None → Lists w p id → StandsAt w p id
stands_listed w p id none at = rw none at

pub stands_grafted : (w : World) (graft id : FullNodeId) (name : TreeId) → graft_name w graft ≡ Some name → root_named w name ≡ Some id → StandsAt w (graft, 0) id
stands_grafted w graft id name grafts is = rw grafts (rw is refl)

pub graft_is_node : (w : World) (id : FullNodeId) (name : TreeId) → graft_name w id ≡ Some name → IsNode w id
graft_is_node w id name grafts = let f = and_then_some (λ d. d.tree_id) (data_of w id) name grafts in IsSome_is f.0 f.1

pub lister_is_node : (w : World) (p : Place) (id : FullNodeId) → Lists w p id → IsNode w p.0
lister_is_node w p id at = by_data (data_of w p.0) at
  where
    by_data : (o : Option NodeData) → slice_get (option_map_or (λ d. map (in_tree p.0.tree) d.children) o []) p.1 ≡ Some id → IsSome o
    by_data None at = cc
    by_data (Some d) at = refl

module _ {w : World} (s : IsState w) where
  pub child_is_node : (p : Place) (id : FullNodeId) → StandsAt w p id → IsNode w id
  child_is_node p id at = ⊎_elim (λ l. s.listed_is_node p id l.1) (λ g. s.root_is_node id.tree id (root_named_parts w g.0 id g.2).1) (by_place w p id at)

  pub place_unique : (p q : Place) (id : FullNodeId) → StandsAt w p id → StandsAt w q id → p ≡ q
  place_unique p q id at_p at_q = go (by_place w p id at_p) (by_place w q id at_q)
    where
      go : ((graft_name w p.0 ≡ None) × Lists w p id) ⊎ ((name : TreeId) × (graft_name w p.0 ≡ Some name) × (root_named w name ≡ Some id) × (p.1 ≡ 0)) → ((graft_name w q.0 ≡ None) × Lists w q id) ⊎ ((name : TreeId) × (graft_name w q.0 ≡ Some name) × (root_named w name ≡ Some id) × (q.1 ≡ 0)) → p ≡ q
      go (inl a) (inl b) = s.listed_once p q id a.1 b.1
      go (inl a) (inr b) = absurd (s.root_unlisted p id.tree id (root_named_parts w b.0 id b.2).1 a.1)
      go (inr a) (inl b) = absurd (s.root_unlisted q id.tree id (root_named_parts w a.0 id a.2).1 b.1)
      go (inr a) (inr b) =
          let same : a.0 ≡ b.0 = index_of_once w a.0 b.0 id.tree (root_named_parts w a.0 id a.2).0 (root_named_parts w b.0 id b.2).0 in
          let parent : p.0 ≡ q.0 = s.grafted_once p.0 q.0 b.0 (a.1 ∙ ap Some same) b.1 in
          let index : p.1 ≡ q.1 = a.3 ∙ sym b.3 in
          λ i. (parent i, index i)

  -- the root tree's root stands nowhere
  pub root_has_no_place : (p : Place) (id : FullNodeId) → root_of w 0 ≡ Some id → StandsAt w p id → ⊥
  root_has_no_place p id is at = go (by_place w p id at)
    where
      go : ((graft_name w p.0 ≡ None) × Lists w p id) ⊎ ((name : TreeId) × (graft_name w p.0 ≡ Some name) × (root_named w name ≡ Some id) × (p.1 ≡ 0)) → ⊥
      go (inl a) = s.root_unlisted p 0 id is a.1
      go (inr a) =
          let index : index_of w a.0 ≡ Some 0 = (root_named_parts w a.0 id a.2).0 ∙ ap Some (sym (root_of-tree w 0 id is)) in
          let name : a.0 ≡ ROOT_NAME = same_Some a.0 ROOT_NAME (sym (known-index_of w a.0 0 index) ∙ s.known_first) in
          s.root_ungrafted p.0 (a.1 ∙ ap Some name)

  -- the root of another tree stands at the graft of its tree and 0
  pub graft_place : (index : ℕ) (id : FullNodeId) → index ≢ 0 → root_of w index ≡ Some id → (graft : FullNodeId) × (name : TreeId) × (graft_name w graft ≡ Some name) × (index_of w name ≡ Some index) × StandsAt w (graft, 0) id
  graft_place index id other is = go index (s.present_kept index (let f = root_of_parts w index id is in IsSome_is f.0 f.1)) other is
    where
      go : (i : ℕ) → Kept w i → i ≢ 0 → root_of w i ≡ Some id → (graft : FullNodeId) × (name : TreeId) × (graft_name w graft ≡ Some name) × (index_of w name ≡ Some i) × StandsAt w (graft, 0) id
      go i world.Kept.root other is = absurd (other refl)
      go i (world.Kept.grafted graft inner name kept reached grafts named) other is =
          let f = root_named_parts w name inner named in
          (graft, name, grafts, f.0, stands_grafted w graft id name grafts (named ∙ sym f.1 ∙ is))

  -- every other node stands somewhere
  pub place_exists : (id : FullNodeId) → IsNode w id → root_of w 0 ≢ Some id → (p : Place) × StandsAt w p id
  place_exists id there other = go id (s.node_reached id there) other
    where
      listed_somewhere : (parent id : FullNodeId) (index : ℕ) (o : Option TreeId) → graft_name w parent ≡ o → Lists w (parent, index) id → (p : Place) × StandsAt w p id
      listed_somewhere parent id index None is at = ((parent, index), stands_listed w (parent, index) id is at)
      listed_somewhere parent id index (Some name) is at = absurd (no_child (listed_ids w parent) (s.graft_childless parent name is) at)
        where
          no_child : (xs : List FullNodeId) → xs ≡ [] → slice_get xs index ≡ Some id → ⊥
          no_child [] e at = cc
          no_child (x ∷ xs) e at = cc

      go : (id : FullNodeId) → Reached w id → root_of w 0 ≢ Some id → (p : Place) × StandsAt w p id
      go id (world.Reached.root index t is) other =
          let root : root_of w index ≡ Some (in_tree index t.root) = ap (option_map (λ x. in_tree index x.root)) is in
          let f = graft_place index (in_tree index t.root) (λ e. other (ap (root_of w) (sym e) ∙ subst (λ k. root_of w k ≡ Some (in_tree index t.root)) refl root)) root in
          ((f.0, 0), f.4)
      go id (world.Reached.child parent id' index reached at) other = listed_somewhere parent id index (graft_name w parent) refl at

  pub one_place : (id : FullNodeId) → IsNode w id → root_of w 0 ≢ Some id → (p : Place) × StandsAt w p id × IsNode w p.0 × ((q : Place) → StandsAt w q id → q ≡ p)
  one_place id there other =
      let f = place_exists id there other in
      (f.0, f.1, parent_is_node w f.0 id f.1, λ q at. place_unique q f.0 id at f.1)
