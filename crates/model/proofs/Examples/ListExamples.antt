-- The lists of the pictured interface, worked out.
use Rattle.std.proofs.Common.{◌≡◌, ℕ, length, ◌+◌, drop, take, reverse, suc, zero, List, [], ◌∷◌, refl, ◌∙◌, ap, map}
use Rattle.std.specs.Prelude.{Option, Some, None, option_map, option_and_then, position}
use Rattle.std.specs.Option.{option_map_or, option_or}
use Rattle.std.specs.Ordering.{nat_cmp}
use Rattle.std.specs.FinMap.{find, len, get-from_sorted, entries-from_sorted, len-entries}
use Rattle.schema.specs.NodeData.{NodeData}
use Rattle.schema.specs.declared.TreeId.{TreeId}
use Rattle.model.specs.declared.FullNodeId.{FullNodeId}
use Rattle.model.specs.FullIds.{full_cmp}
use Rattle.model.specs.World.{World, Tree, data_of, in_tree, index_of, at_most_one, children, root_of, root_named, Place}
use Rattle.model.specs.Forest.{Forest, empty, tree, plant, levels_below, is_same, place_among, place_of, chain, places_up, below, above}
use Rattle.model.specs.Lists.{nodes_of, preorder, following_siblings, preceding_siblings, deepest_first, deepest_last}
use Rattle.model.specs.Paths.{depth, index_path}
use Rattle.model.specs.Frontier.{frontier}
use Rattle.model.specs.ListExamples.{pictured_nodes, pictured_trees, pictured, PicturedLists, some_nodes, no_document}
use Rattle.model.specs.Examples.{at}

-- ---- what computes: children from the written entries, places from the written children, and the forest and the climb from these

abbrev pub written_root : ℕ → Option FullNodeId
written_root index = option_map (λ (t : Tree). in_tree index t.root) (find nat_cmp index pictured_trees)

abbrev written_children : FullNodeId → List FullNodeId
written_children id =
    option_map_or (λ name. at_most_one (option_and_then written_root (index_of pictured name))) (option_and_then (λ (d : NodeData). d.tree_id) (find full_cmp id pictured_nodes))
    (option_map_or (λ (d : NodeData). map (in_tree id.tree) d.children) (find full_cmp id pictured_nodes) [])

abbrev pub place_by : (FullNodeId → List FullNodeId) → FullNodeId → List FullNodeId → Option Place
place_by kids child [] = None
place_by kids child (p ∷ ps) = option_or (option_map (λ i. (p, i)) (position (is_same child) (kids p))) (place_by kids child ps)

abbrev grown_by : (FullNodeId → List FullNodeId) → ℕ → FullNodeId → Forest
grown_by kids zero id = empty
grown_by kids (suc n) id = plant (grown_by kids n) (kids id)

abbrev climbed_by : (FullNodeId → Option Place) → ℕ → FullNodeId → List Place
climbed_by place zero id = []
climbed_by place (suc n) id = chain (climbed_by place n) (place id)

-- ---- the pictured world has these

plant_same : (f g : FullNodeId → Forest) → ((c : FullNodeId) → f c ≡ g c) → (cs : List FullNodeId) → plant f cs ≡ plant g cs
plant_same f g h [] = refl
plant_same f g h (c ∷ cs) =
    let first : f c ≡ g c = h c in
    let others : plant f cs ≡ plant g cs = plant_same f g h cs in cc

grown_is : (w : World) (kids : FullNodeId → List FullNodeId) → ((id : FullNodeId) → children w id ≡ kids id) → (n : ℕ) (id : FullNodeId) → levels_below w n id ≡ grown_by kids n id
grown_is w kids h zero id = refl
grown_is w kids h (suc n) id = ap (plant (levels_below w n)) (h id) ∙ plant_same (levels_below w n) (grown_by kids n) (grown_is w kids h n) (kids id)

chain_same : (f g : FullNodeId → List Place) → ((c : FullNodeId) → f c ≡ g c) → (o : Option Place) → chain f o ≡ chain g o
chain_same f g h None = refl
chain_same f g h (Some p) = ap (λ ps. p ∷ ps) (h p.0)

climbed_is : (w : World) (place : FullNodeId → Option Place) → ((id : FullNodeId) → place_of w id ≡ place id) → (n : ℕ) (id : FullNodeId) → places_up w n id ≡ climbed_by place n id
climbed_is w place h zero id = refl
climbed_is w place h (suc n) id = ap (chain (places_up w n)) (h id) ∙ chain_same (places_up w n) (climbed_by place n) (climbed_is w place h n) (place id)

place_among_is : (w : World) (kids : FullNodeId → List FullNodeId) → ((id : FullNodeId) → children w id ≡ kids id) → (c : FullNodeId) (ps : List FullNodeId) → place_among w c ps ≡ place_by kids c ps
place_among_is w kids h c [] = refl
place_among_is w kids h c (p ∷ ps) =
    ap (λ cs. option_or (option_map (λ i. (p, i)) (position (is_same c) cs)) (place_among w c ps)) (h p)
    ∙ ap (option_or (option_map (λ i. (p, i)) (position (is_same c) (kids p)))) (place_among_is w kids h c ps)

named_from : (w : World) (root : ℕ → Option FullNodeId) → ((i : ℕ) → root_of w i ≡ root i) → (o : Option ℕ) → option_and_then (root_of w) o ≡ option_and_then root o
named_from w root h None = refl
named_from w root h (Some i) = h i

children_from : (w : World) (root : ℕ → Option FullNodeId) → ((i : ℕ) → root_of w i ≡ root i) → (id : FullNodeId) (o : Option NodeData) → data_of w id ≡ o → children w id ≡ option_map_or (λ name. at_most_one (option_and_then root (index_of w name))) (option_and_then (λ (d : NodeData). d.tree_id) o) (option_map_or (λ (d : NodeData). map (in_tree id.tree) d.children) o [])
children_from w root h id o e = rw e (by_graft (option_and_then (λ (d : NodeData). d.tree_id) o))
  where
    by_graft : (g : Option TreeId) → option_map_or (λ name. at_most_one (root_named w name)) g (option_map_or (λ (d : NodeData). map (in_tree id.tree) d.children) o []) ≡ option_map_or (λ name. at_most_one (option_and_then root (index_of w name))) g (option_map_or (λ (d : NodeData). map (in_tree id.tree) d.children) o [])
    by_graft None = refl
    by_graft (Some name) = ap at_most_one (named_from w root h (index_of w name))

children_are : (id : FullNodeId) → children pictured id ≡ written_children id
children_are id = children_from pictured written_root (λ i. ap (option_map (λ (t : Tree). in_tree i t.root)) (get-from_sorted nat_cmp pictured_trees i tt)) id (find full_cmp id pictured_nodes) (get-from_sorted full_cmp pictured_nodes id tt)

abbrev written_place : FullNodeId → Option Place
written_place id = place_by written_children id (map (λ (e : FullNodeId × NodeData). e.0) pictured_nodes)

place_is : (id : FullNodeId) → place_of pictured id ≡ written_place id
unfolding place_of
place_is id = ap (place_among pictured id) (ap (map (λ (e : FullNodeId × NodeData). e.0)) (entries-from_sorted full_cmp pictured_nodes tt)) ∙ place_among_is pictured written_children children_are id (map (λ (e : FullNodeId × NodeData). e.0) pictured_nodes)

eight : len pictured.nodes ≡ 8
eight = len-entries pictured.nodes ∙ ap length (entries-from_sorted full_cmp pictured_nodes tt)

below_are : (id : FullNodeId) → below pictured id ≡ grown_by written_children 8 id
unfolding below
below_are id = ap (λ n. levels_below pictured n id) eight ∙ grown_is pictured written_children children_are 8 id

above_are : (id : FullNodeId) → above pictured id ≡ climbed_by written_place 8 id
unfolding above
above_are id = ap (λ n. places_up pictured n id) eight ∙ climbed_is pictured written_place place_is 8 id

abbrev written_path : FullNodeId → List ℕ
written_path id = reverse (map (λ (p : Place). p.1) (climbed_by written_place 8 id))

path_is : (id : FullNodeId) → index_path pictured id ≡ written_path id
path_is id = ap (λ (ps : List Place). reverse (map (λ (p : Place). p.1) ps)) (above_are id)

map_same : {A : Type 0} (f g : FullNodeId → A) → ((c : FullNodeId) → f c ≡ g c) → (cs : List FullNodeId) → map f cs ≡ map g cs
map_same f g h [] = refl
map_same f g h (c ∷ cs) =
    let first : f c ≡ g c = h c in
    let others : map f cs ≡ map g cs = map_same f g h cs in cc

-- ---- so its lists are these

window_forest : below pictured (at 0 0)
    ≡ tree (at 0 1) empty (tree (at 0 2) (tree (at 1 0) (tree (at 1 1) empty (tree (at 1 2) empty empty)) empty) (tree (at 0 3) (tree (at 0 4) empty empty) empty))
window_forest = below_are (at 0 0)

graft_forest : below pictured (at 0 2) ≡ tree (at 1 0) (tree (at 1 1) empty (tree (at 1 2) empty empty)) empty
graft_forest = below_are (at 0 2)

label_forest : below pictured (at 0 4) ≡ empty
label_forest = below_are (at 0 4)

nodes : List FullNodeId
nodes = at 0 0 ∷ at 0 1 ∷ at 0 2 ∷ at 1 0 ∷ at 1 1 ∷ at 1 2 ∷ at 0 3 ∷ at 0 4 ∷ []

window_order : preorder pictured (at 0 0) ≡ nodes
unfolding nodes
window_order = ap (λ t. at 0 0 ∷ nodes_of t) window_forest

window_paths : map written_path nodes ≡ [] ∷ (0 ∷ []) ∷ (1 ∷ []) ∷ (1 ∷ 0 ∷ []) ∷ (1 ∷ 0 ∷ 0 ∷ []) ∷ (1 ∷ 0 ∷ 1 ∷ []) ∷ (2 ∷ []) ∷ (2 ∷ 0 ∷ []) ∷ []
unfolding nodes
window_paths = refl

window_places : map written_place nodes ≡ None ∷ Some (at 0 0, 0) ∷ Some (at 0 0, 1) ∷ Some (at 0 2, 0) ∷ Some (at 1 0, 0) ∷ Some (at 1 0, 1) ∷ Some (at 0 0, 2) ∷ Some (at 0 3, 0) ∷ []
unfolding nodes
window_places = refl

window_depths : map (λ id. length (climbed_by written_place 8 id)) nodes ≡ 0 ∷ 1 ∷ 1 ∷ 2 ∷ 3 ∷ 3 ∷ 1 ∷ 2 ∷ []
unfolding nodes
window_depths = refl

last_above : above pictured (at 1 2) ≡ (at 1 0, 1) ∷ (at 0 2, 0) ∷ (at 0 0, 1) ∷ []
last_above = above_are (at 1 2)

graft_above : above pictured (at 0 2) ≡ (at 0 0, 1) ∷ []
graft_above = above_are (at 0 2)

siblings_after : (id : FullNodeId) (p : Place) (cs : List FullNodeId) → place_of pictured id ≡ Some p → children pictured p.0 ≡ cs → following_siblings pictured id ≡ drop (p.1 + 1) cs
siblings_after id p cs e f = rw e (ap (drop (p.1 + 1)) f)

siblings_before : (id : FullNodeId) (p : Place) (cs : List FullNodeId) → place_of pictured id ≡ Some p → children pictured p.0 ≡ cs → preceding_siblings pictured id ≡ reverse (take p.1 cs)
siblings_before id p cs e f = rw e (ap (λ xs. reverse (take p.1 xs)) f)

abbrev in_window : List FullNodeId
in_window = at 0 1 ∷ at 0 2 ∷ at 0 3 ∷ []

pub pictured_lists : PicturedLists
unfolding nodes
pictured_lists = record {
  order = window_order;
  paths = ap (map (index_path pictured)) window_order ∙ map_same (index_path pictured) written_path path_is nodes ∙ window_paths;
  places = ap (map (place_of pictured)) window_order ∙ map_same (place_of pictured) written_place place_is nodes ∙ window_places;
  depths = ap (map (depth pictured)) window_order ∙ map_same (depth pictured) (λ id. length (climbed_by written_place 8 id)) (λ id. ap length (above_are id)) nodes ∙ window_depths;
  graft_order = ap (λ t. at 0 2 ∷ nodes_of t) graft_forest;
  last_above = last_above;
  last_ancestors = ap (map (λ (p : Place). p.0)) last_above;
  button_following = siblings_after (at 0 1) (at 0 0, 0) in_window (place_is (at 0 1)) (children_are (at 0 0));
  group_preceding = siblings_before (at 0 3) (at 0 0, 2) in_window (place_is (at 0 3)) (children_are (at 0 0));
  inner_following = siblings_after (at 1 0) (at 0 2, 0) (at 1 0 ∷ []) (place_is (at 1 0)) (children_are (at 0 2));
  inner_preceding = siblings_before (at 1 0) (at 0 2, 0) (at 1 0 ∷ []) (place_is (at 1 0)) (children_are (at 0 2));
  first_of_window = ap deepest_first window_forest;
  first_of_graft = ap deepest_first graft_forest;
  first_of_label = ap deepest_first label_forest;
  last_of_window = ap deepest_last window_forest;
  last_of_graft = ap deepest_last graft_forest;
  last_of_label = ap deepest_last label_forest;
  from_graft = ap (λ (ps : List Place). drop (length (above pictured (at 0 2))) (reverse (map (λ (p : Place). p.1) ps))) last_above ∙ ap (λ (ps : List Place). drop (length ps) (1 ∷ 0 ∷ 1 ∷ [])) graft_above;
  some_shown = ap (frontier some_nodes) window_forest;
  no_document_shown = ap (frontier no_document) window_forest;
}
