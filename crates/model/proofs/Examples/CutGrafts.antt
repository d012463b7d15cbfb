-- The focus on a graft that the update cuts off.
use Rattle.std.proofs.Common.{◌≡◌, ℕ, List, [], ◌∷◌, refl, sym, ap, ◌∙◌, subst, arith}
use Rattle.std.specs.FinMap.{get}
use Rattle.std.proofs.lemmas.Option.{same_Some}
use Rattle.schema.specs.NodeData.{NodeData}
use Rattle.model.specs.declared.FullNodeId.{FullNodeId}
use Rattle.model.specs.World.{ROOT_NAME, World, Tree, IsNode, Reached}
use Rattle.model.specs.World as world
use Rattle.model.specs.Focus.{OnChain, first, next}
use Rattle.model.specs.Update.{FocusMissing, Stands, merged_world}
use Rattle.model.specs.Examples as examples
use Rattle.model.specs.Examples.{at, node, name, window, document, graft, button, plain_tree, nested, focus_on_cut_graft}
use Rattle.model.proofs.State.StatePlaces.{listed_tree}
use Rattle.model.proofs.Examples.Tools.{◌▸◌}
use Rattle.model.proofs.Examples.Evidence.{each_listed, none_stands_apart}
use Rattle.model.proofs.Examples.Tested.{IsWritten, IsTested, merged_written, tree_at, root_tree_again, tested, tested_apart}
use Rattle.model.proofs.Examples.Worlds.{window_nodes, nested_written, written}

abbrev focused_tree : Tree
focused_tree = record { root = node 0; focus = node 1 }

abbrev focused : List (ℕ × Tree)
focused = (0, focused_tree) ∷ []

-- what would be left, were there no rule on the focus
abbrev left : World
left = examples.world (ROOT_NAME ∷ name 1 ∷ name 2 ∷ []) focused window_nodes

abbrev m : World
m = merged_world nested focus_on_cut_graft

abbrev merged_trees : List (ℕ × Tree)
merged_trees = (0, focused_tree) ∷ (1, plain_tree) ∷ (2, plain_tree) ∷ []

abbrev merged_nodes : List (FullNodeId × NodeData)
merged_nodes = (at 0 0, window []) ∷ (at 0 1, graft (name 1)) ∷ (at 1 0, document (1 ∷ [])) ∷ (at 1 1, graft (name 2)) ∷ (at 2 0, document (1 ∷ [])) ∷ (at 2 1, button) ∷ []

before : IsWritten m merged_trees merged_nodes
before = merged_written nested focus_on_cut_graft nested_written (node 0) refl

shown : IsTested nested focus_on_cut_graft left merged_trees merged_nodes focused window_nodes
shown =
    tested focus_on_cut_graft nested_written (node 0) refl (written _ focused window_nodes) (refl, refl, refl)
    (root_tree_again focus_on_cut_graft nested_written refl refl refl) (refl ▸ tt, refl ▸ tt) refl

-- of tree 0 the window alone is reached
reached_alone : (id : FullNodeId) → Reached m id → id.tree ≡ 0 → id.node.0 ≡ 0
reached_alone id (world.Reached.root index t is) tree = let same : focused_tree ≡ t = same_Some focused_tree t (sym (tree_at before 0) ∙ ap (get m.trees) (sym tree) ∙ is) in ap (λ x. x.root.0) (sym same)
reached_alone id (world.Reached.child parent id' index reached at) tree =
    absurd (each_listed m merged_nodes before.nodes (λ p c. p.0.tree ≡ 0 → ⊥) (tt ▸ tt ▸ ((λ e. let n : 1 ≡ 0 = e in omega arith) ▸ tt) ▸ tt ▸ ((λ e. let n : 2 ≡ 0 = e in omega arith) ▸ tt) ▸ tt ▸ tt) (parent, index) id at (sym (listed_tree m (parent, index) id at) ∙ tree))

not_reached : ¬ (Reached m (at 0 1))
not_reached r = let e : ◌≡◌ {A = ℕ} 1 0 = reached_alone (at 0 1) r refl in omega arith

-- so the chain stops at the graft
chain_stops : (id : FullNodeId) → OnChain m id → id ≡ at 0 1
chain_stops id (first t is) = let same : focused_tree ≡ t = same_Some focused_tree t (sym (tree_at before 0) ∙ is) in ap (λ x. world.in_tree 0 x.focus) (sym same)
chain_stops id (next cut id' on goes) = absurd (not_reached (subst (Reached m) (chain_stops cut on) goes.reached))

pub focus_on_a_cut_graft_is_missing : Stands nested focus_on_cut_graft (FocusMissing (node 1))
focus_on_a_cut_graft_is_missing = (none_stands_apart (tested_apart shown), (λ n e. not_reached (subst (Reached m) (chain_stops e.0 e.1) e.3)), at 0 1, refl, first focused_tree (tree_at before 0), not_reached)
