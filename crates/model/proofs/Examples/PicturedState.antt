-- The pictured interface is a state.
use Rattle.std.proofs.Common.{◌≡◌, ◌≢◌, ℕ, ◌<◌, suc, zero, Bool, true, false, cond, List, [], ◌∷◌, length, refl, sym, ◌∙◌, ap, subst, arith, map, inl, inr, get_or}
use Rattle.std.specs.Prelude.{Option, Some, None, IsSome, is_some, slice_get, option_map, option_and_then, ◌⊎◌, ◌||◌}
use Rattle.std.specs.Option.{option_map_or}
use Rattle.std.specs.List.{AllByRecursion}
use Rattle.std.specs.Ordering.{nat_cmp, eq_by_cmp}
use Rattle.std.specs.FinMap.{get, find, get-from_sorted}
use Rattle.std.proofs.lemmas.Bool.{false≢true}
use Rattle.std.proofs.lemmas.Option.{none-some, same_Some}
use Rattle.std.proofs.lemmas.List.Elements.{All-contains, All-from_recursion}
use Rattle.std.proofs.lemmas.Map.Views.{tells_apart}
use Rattle.std.proofs.lemmas.Map.Lookups.{exact_unsigned}
use Rattle.schema.specs.NodeData.{NodeData}
use Rattle.schema.specs.declared.TreeId.{TreeId}
use Rattle.model.specs.declared.FullNodeId.{FullNodeId}
use Rattle.model.specs.FullIds.{full_cmp}
use Rattle.model.specs.World.{ROOT_NAME, Tree, data_of, IsNode, in_tree, listed_ids, graft_name, root_of, Place, Reached, root, child, Kept, grafted}
use Rattle.model.specs.Focus.{OnChain, first, next}
use Rattle.model.specs.State.{IsState, Lists}
use Rattle.model.specs.Forest.{is_same}
use Rattle.model.specs.ListExamples.{pictured_nodes, pictured_trees, pictured}
use Rattle.model.specs.Examples.{at, name}
use Rattle.model.proofs.State.StatePlaces.{lister_is_node, graft_is_node, root_of_parts, IsSome_is}
use Rattle.model.proofs.Worlds.Written.{node_written}
use Rattle.model.proofs.Examples.ListExamples.{written_root, place_by}

-- ---- the nodes, one by one

keys : List FullNodeId
keys = map (λ (e : FullNodeId × NodeData). e.0) pictured_nodes

each_node : (P : FullNodeId → Type 0) → AllByRecursion P (map (λ (e : FullNodeId × NodeData). e.0) pictured_nodes) → (id : FullNodeId) → IsNode pictured id → P id
each_node P all id there = All-contains P (map (λ (e : FullNodeId × NodeData). e.0) pictured_nodes) id (All-from_recursion P (map (λ (e : FullNodeId × NodeData). e.0) pictured_nodes) all) (node_written pictured pictured_nodes tt refl id there)

data_is : (id : FullNodeId) → data_of pictured id ≡ find full_cmp id pictured_nodes
data_is id = get-from_sorted full_cmp pictured_nodes id tt

is_node : (id : FullNodeId) → is_some (find full_cmp id pictured_nodes) ≡ true → IsNode pictured id
is_node id e = ap is_some (data_is id) ∙ e

abbrev written_listed : FullNodeId → List FullNodeId
written_listed id = option_map_or (λ (d : NodeData). map (in_tree id.tree) d.children) (find full_cmp id pictured_nodes) []

listed_is : (id : FullNodeId) → listed_ids pictured id ≡ written_listed id
listed_is id = ap (λ (o : Option NodeData). option_map_or (λ (d : NodeData). map (in_tree id.tree) d.children) o []) (data_is id)

abbrev written_graft : FullNodeId → Option TreeId
written_graft id = option_and_then (λ (d : NodeData). d.tree_id) (find full_cmp id pictured_nodes)

graft_is : (id : FullNodeId) → graft_name pictured id ≡ written_graft id
graft_is id = ap (option_and_then (λ (d : NodeData). d.tree_id)) (data_is id)

root_is : (index : ℕ) → root_of pictured index ≡ written_root index
root_is index = ap (option_map (λ (t : Tree). in_tree index t.root)) (get-from_sorted nat_cmp pictured_trees index tt)

-- ---- the places of child lists, one by one

EachAt : (ℕ → FullNodeId → Type 0) → List FullNodeId → Type 0
EachAt P [] = Unit {0}
EachAt P (c ∷ cs) = P 0 c × EachAt (λ n. P (suc n)) cs

at_each : (P : ℕ → FullNodeId → Type 0) (cs : List FullNodeId) → EachAt P cs → (i : ℕ) (c : FullNodeId) → slice_get cs i ≡ Some c → P i c
unfolding EachAt
at_each P [] h i c e = absurd (none-some c e)
at_each P (d ∷ cs) h zero c e = subst (P 0) (same_Some d c e) h.0
at_each P (d ∷ cs) h (suc i) c e = at_each (λ n. P (suc n)) cs h.1 i c e

abbrev lister : FullNodeId → Option Place
lister c = place_by written_listed c (map (λ (e : FullNodeId × NodeData). e.0) pictured_nodes)

abbrev is_root : FullNodeId → Bool
is_root c = is_same c (at 0 0) || is_same c (at 1 0)

-- what is said of a node that is listed at this place
abbrev IsListedAt : FullNodeId → ℕ → FullNodeId → Type 0
IsListedAt id i c = (is_some (find full_cmp c pictured_nodes) ≡ true) × (lister c ≡ Some (id, i)) × (is_root c ≡ false)

all_listed : AllByRecursion (λ id. EachAt (IsListedAt id) (written_listed id)) (map (λ (e : FullNodeId × NodeData). e.0) pictured_nodes)
unfolding EachAt
all_listed = (((refl, refl, refl), ((refl, refl, refl), ((refl, refl, refl), tt))), (tt, (tt, (((refl, refl, refl), tt), (tt, (((refl, refl, refl), ((refl, refl, refl), tt)), (tt, (tt, tt))))))))

listed_at : (p : Place) (c : FullNodeId) → Lists pictured p c → IsListedAt p.0 p.1 c
listed_at p c e = at_each (IsListedAt p.0) (written_listed p.0) (each_node (λ id. EachAt (IsListedAt id) (written_listed id)) all_listed p.0 (lister_is_node pictured p c e)) p.1 c (rw (listed_is p.0) at e)

-- ---- the graft and the roots

is_name : FullNodeId → Type 0
is_name id = (k : TreeId) → written_graft id ≡ Some k → (id ≡ at 0 2) × (k ≡ name 1) × (written_listed id ≡ [])

no_name : (id : FullNodeId) → written_graft id ≡ None → is_name id
unfolding is_name
no_name id e k f = absurd (none-some k (sym e ∙ f))

all_grafts : AllByRecursion is_name (map (λ (e : FullNodeId × NodeData). e.0) pictured_nodes)
unfolding is_name
all_grafts = (no_name (at 0 0) refl, (no_name (at 0 1) refl, ((λ k e. (refl, sym (same_Some (name 1) k e), refl)), (no_name (at 0 3) refl, (no_name (at 0 4) refl, (no_name (at 1 0) refl, (no_name (at 1 1) refl, (no_name (at 1 2) refl, tt))))))))

grafts : (id : FullNodeId) (k : TreeId) → graft_name pictured id ≡ Some k → (id ≡ at 0 2) × (k ≡ name 1) × (written_listed id ≡ [])
unfolding is_name
grafts id k e = each_node is_name all_grafts id (graft_is_node pictured id k e) k (sym (graft_is id) ∙ e)

by_first : (i : ℕ) (t : Tree) (a b : Bool) → eq_by_cmp nat_cmp i 0 ≡ a → eq_by_cmp nat_cmp i 1 ≡ b → IsSome (cond a (Some t) (cond b (Some t) None)) → (i ≡ 0) ⊎ (i ≡ 1)
by_first i t true b e f g = inl (tells_apart exact_unsigned i 0 e)
by_first i t false true e f g = inr (tells_apart exact_unsigned i 1 f)
by_first i t false false e f g = absurd (false≢true g)

tree_index : (i : ℕ) → IsSome (find nat_cmp i pictured_trees) → (i ≡ 0) ⊎ (i ≡ 1)
tree_index i h = by_first i (record { root = record { 0 = 0 }; focus = record { 0 = 0 } }) (eq_by_cmp nat_cmp i 0) (eq_by_cmp nat_cmp i 1) refl refl h

tree_known : (index : ℕ) → IsSome (get pictured.trees index) → (index ≡ 0) ⊎ (index ≡ 1)
tree_known index h = tree_index index (subst IsSome (get-from_sorted nat_cmp pictured_trees index tt) h)

root_known : (index : ℕ) (id : FullNodeId) → root_of pictured index ≡ Some id → (at 0 0 ≡ id) ⊎ (at 1 0 ≡ id)
root_known index id e =
    let tree = root_of_parts pictured index id e in
    elim (tree_known index (IsSome_is tree.0 tree.1)) [
      | inl here ↦ inl (same_Some (at 0 0) id (sym (root_is 0) ∙ ap (root_of pictured) (sym here) ∙ e))
      | inr here ↦ inr (same_Some (at 1 0) id (sym (root_is 1) ∙ ap (root_of pictured) (sym here) ∙ e))
    ]

names_apart : ROOT_NAME ≢ (name 1)
names_apart e = let last : ◌≡◌ {A = ℕ} 0 1 = ap (λ (n : TreeId). get_or n.0 15 0) e in absurd (omega arith)

known_cases : (i : ℕ) (k : TreeId) → slice_get pictured.known i ≡ Some k → ((i ≡ 0) × (ROOT_NAME ≡ k)) ⊎ ((i ≡ 1) × (name 1 ≡ k))
known_cases zero k e = inl (refl, same_Some ROOT_NAME k e)
known_cases (suc zero) k e = inr (refl, same_Some (name 1) k e)
known_cases (suc (suc i)) k e = absurd (none-some k e)

-- ---- what is reached and kept

reached_root : (index : ℕ) (id : FullNodeId) → root_of pictured index ≡ Some id → Reached pictured id
reached_root index id e = let tree = root_of_parts pictured index id e in subst (Reached pictured) tree.2 (root index tree.0 tree.1)

step : (id c : FullNodeId) (i : ℕ) → slice_get (written_listed id) i ≡ Some c → Reached pictured id → Reached pictured c
step id c i e r = child id c i r (rw (listed_is id) e)

window_reached : Reached pictured (at 0 0)
window_reached = reached_root 0 (at 0 0) (root_is 0)

document_reached : Reached pictured (at 1 0)
document_reached = reached_root 1 (at 1 0) (root_is 1)

group_reached : Reached pictured (at 0 3)
group_reached = step (at 0 0) (at 0 3) 2 refl window_reached

all_reached : AllByRecursion (Reached pictured) (map (λ (e : FullNodeId × NodeData). e.0) pictured_nodes)
all_reached =
    (window_reached, (step (at 0 0) (at 0 1) 0 refl window_reached, (step (at 0 0) (at 0 2) 1 refl window_reached, (group_reached, (step (at 0 3) (at 0 4) 0 refl group_reached, (document_reached, (step (at 1 0) (at 1 1) 0 refl document_reached, (step (at 1 0) (at 1 2) 1 refl document_reached, tt))))))))

inner_kept : Kept pictured 1
inner_kept = grafted (at 0 2) (at 1 0) (name 1) root (step (at 0 0) (at 0 2) 1 refl window_reached) (graft_is (at 0 2)) (root_is 1)

bare : (id : FullNodeId) (k : TreeId) → id ≡ at 0 0 → graft_name pictured id ≡ Some k → ⊥
bare id k is e = let same : ◌≡◌ {A = ℕ} 0 2 = ap (λ (x : FullNodeId). x.node.0) (sym is ∙ (grafts id k e).0) in absurd (omega arith)

-- the chain of the focus is the window
chain_is : (id : FullNodeId) → OnChain pictured id → id ≡ at 0 0
chain_is id (first t e) = ap (λ (x : Tree). in_tree 0 x.focus) (sym (same_Some (record { root = record { 0 = 0 }; focus = record { 0 = 0 } }) t (sym (get-from_sorted nat_cmp pictured_trees 0 tt) ∙ e)))
chain_is id (next graft _ c goes) = absurd (bare graft goes.name (chain_is graft c) goes.grafts)

known_once : (i j : ℕ) (k : TreeId) → slice_get pictured.known i ≡ Some k → slice_get pictured.known j ≡ Some k → i ≡ j
known_once i j k e f = by_both (known_cases i k e) (known_cases j k f)
  where
    by_both : ((i ≡ 0) × (ROOT_NAME ≡ k)) ⊎ ((i ≡ 1) × (name 1 ≡ k)) → ((j ≡ 0) × (ROOT_NAME ≡ k)) ⊎ ((j ≡ 1) × (name 1 ≡ k)) → i ≡ j
    by_both (inl a) (inl b) = a.0 ∙ sym b.0
    by_both (inl a) (inr b) = absurd (names_apart (a.1 ∙ sym b.1))
    by_both (inr a) (inl b) = absurd (names_apart (b.1 ∙ sym a.1))
    by_both (inr a) (inr b) = a.0 ∙ sym b.0

present_kept : (index : ℕ) → IsSome (get pictured.trees index) → Kept pictured index
present_kept index h = elim (tree_known index h) [ inl here ↦ subst (Kept pictured) (sym here) root | inr here ↦ subst (Kept pictured) (sym here) inner_kept ]

present_known : (index : ℕ) → IsSome (get pictured.trees index) → index < length pictured.known
present_known index h = elim (tree_known index h) [ inl here ↦ omega arith | inr here ↦ omega arith ]

roots_are_nodes : (index : ℕ) (id : FullNodeId) → root_of pictured index ≡ Some id → IsNode pictured id
roots_are_nodes index id e = elim (root_known index id e) [ inl same ↦ subst (IsNode pictured) same (is_node (at 0 0) refl) | inr same ↦ subst (IsNode pictured) same (is_node (at 1 0) refl) ]

roots_are_unlisted : (p : Place) (index : ℕ) (id : FullNodeId) → root_of pictured index ≡ Some id → Lists pictured p id → ⊥
roots_are_unlisted p index id e there = false≢true (sym (listed_at p id there).2 ∙ told (root_known index id e))
  where
    told : (at 0 0 ≡ id) ⊎ (at 1 0 ≡ id) → is_root id ≡ true
    told (inl same) = ap is_root (sym same)
    told (inr same) = ap is_root (sym same)

pub pictured_state : IsState pictured
pictured_state = record {
  known_first = refl;
  known_once = known_once;
  known_fit = omega arith;
  root_present = ap is_some (get-from_sorted nat_cmp pictured_trees 0 tt);
  present_known = present_known;
  present_kept = present_kept;
  node_present = λ id h. subst IsSome (sym (get-from_sorted nat_cmp pictured_trees id.tree tt)) (each_node (λ c. IsSome (find nat_cmp c.tree pictured_trees)) (refl, (refl, (refl, (refl, (refl, (refl, (refl, (refl, tt)))))))) id h);
  node_reached = each_node (Reached pictured) all_reached;
  root_is_node = roots_are_nodes;
  listed_is_node = λ p c e. is_node c (listed_at p c e).0;
  listed_once = λ p q c e f. same_Some p q (sym (listed_at p c e).1 ∙ (listed_at q c f).1);
  root_unlisted = roots_are_unlisted;
  graft_childless = λ id k e. listed_is id ∙ (grafts id k e).2;
  root_ungrafted = λ id e. names_apart (grafts id ROOT_NAME e).1;
  grafted_once = λ a b k e f. (grafts a k e).0 ∙ sym (grafts b k f).0;
  focus_is_node = λ id c. subst (IsNode pictured) (sym (chain_is id c)) (is_node (at 0 0) refl);
  focus_goes_on = λ id k c e. absurd (bare id k (chain_is id c) e);
}
