-- Updates of a window with a button that are refused.
use Rattle.std.proofs.Common.{◌≡◌, ℕ, ◌<◌, List, [], ◌∷◌, Some, option_map, inl, inr, refl, sym, ap, ◌∙◌, subst, arith}
use Rattle.std.specs.Cmp.{nat_cmp_total}
use Rattle.std.specs.FinMap.{get, entries, find}
use Rattle.std.proofs.lemmas.Option.{same_Some}
use Rattle.schema.specs.NodeData.{NodeData}
use Rattle.model.specs.declared.FullNodeId.{FullNodeId}
use Rattle.model.specs.FullIds.{full_cmp, full_total}
use Rattle.model.specs.World.{World, Tree, IsNode, Place, Reached, Kept}
use Rattle.model.specs.World as world
use Rattle.model.specs.Update.{MissingData, NotReached, NamedTwice, Stands, merged_world}
use Rattle.model.specs.Examples.{at, node, window, container, button, plain_tree, plain, an_island, button_twice, child_without_data}
use Rattle.model.proofs.State.StatePlaces.{listed_tree}
use Rattle.model.proofs.Update.Merges.{tree_named}
use Rattle.model.proofs.Examples.Tools.{◌▸◌, entries-from_entries, entries-overwritten, get_is, over, lists_at}
use Rattle.model.proofs.Examples.Evidence.{EachListed, each_listed, nothing}

abbrev ts : List (ℕ × Tree)
ts = (0, plain_tree) ∷ []

abbrev plain_nodes : List (FullNodeId × NodeData)
plain_nodes = (at 0 0, window (1 ∷ [])) ∷ (at 0 1, button) ∷ []

plain_tree_is : get plain.trees 0 ≡ Some plain_tree
plain_tree_is = get_is plain.trees ts (entries-from_entries nat_cmp_total ts) 0

abbrev island : World
island = merged_world plain an_island

abbrev island_nodes : List (FullNodeId × NodeData)
island_nodes = (at 0 0, window (1 ∷ [])) ∷ (at 0 1, button) ∷ (at 0 5, container (6 ∷ [])) ∷ (at 0 6, container (5 ∷ [])) ∷ []

island_es : entries island.nodes ≡ island_nodes
island_es = entries-overwritten plain.nodes 0 an_island.nodes ∙ ap (over 0 an_island.nodes) (entries-from_entries full_total plain_nodes)

island_tree : get island.trees 0 ≡ Some plain_tree
island_tree = tree_named plain an_island (node 0) (ap (option_map (λ t. t.root)) plain_tree_is)

-- below 5, nodes list nodes below 5
low : EachListed (λ p c. p.0.node.0 < 5 → c.node.0 < 5) island_nodes
low = ((λ h. omega arith) ▸ tt) ▸ tt ▸ ((λ h. omega arith) ▸ tt) ▸ ((λ h. omega arith) ▸ tt) ▸ tt

-- and so only those are reached
reached_low : (id : FullNodeId) → Reached island id → id.tree ≡ 0 → id.node.0 < 5
reached_low id (world.Reached.root index t is) tree = let same : plain_tree ≡ t = same_Some plain_tree t (sym island_tree ∙ ap (get island.trees) (sym tree) ∙ is) in subst (λ x. x.root.0 < 5) same (omega arith)
reached_low id (world.Reached.child parent id' index reached at) tree =
    each_listed island island_nodes island_es (λ p c. p.0.node.0 < 5 → c.node.0 < 5) low (parent, index) id at (reached_low parent reached (sym (listed_tree island (parent, index) id at) ∙ tree))

pub nodes_that_list_each_other_are_not_reached : Stands plain an_island (NotReached (node 5)) × Stands plain an_island (NotReached (node 6))
nodes_that_list_each_other_are_not_reached = ((at 0 5, refl, (refl, (0, omega arith, refl)), λ r. let h = reached_low (at 0 5) r refl in omega arith), (at 0 6, refl, (refl, (1, omega arith, refl)), λ r. let h = reached_low (at 0 6) r refl in omega arith))

pub node_named_twice_is_refused : Stands plain button_twice (NamedTwice (node 1))
node_named_twice_is_refused = (0, 1, omega arith, refl, refl)

abbrev lacking : World
lacking = merged_world plain child_without_data

abbrev lacking_nodes : List (FullNodeId × NodeData)
lacking_nodes = (at 0 0, window (1 ∷ 9 ∷ [])) ∷ (at 0 1, button) ∷ []

lacking_has : (id : FullNodeId) → get lacking.nodes id ≡ find full_cmp id lacking_nodes
lacking_has id = get_is lacking.nodes lacking_nodes (entries-overwritten plain.nodes 0 child_without_data.nodes ∙ ap (over 0 child_without_data.nodes) (entries-from_entries full_total plain_nodes)) id

pub listed_child_without_data_is_refused : Stands plain child_without_data (MissingData (node 9))
listed_child_without_data_is_refused =
    (at 0 9, refl, nothing (get lacking.nodes (at 0 9)) (lacking_has (at 0 9)), inr ((at 0 0, 1), (inl (refl, (0, omega arith, refl)), lists_at lacking (at 0 0) (window (1 ∷ 9 ∷ [])) 1 (at 0 9) (lacking_has (at 0 0)) refl)))
