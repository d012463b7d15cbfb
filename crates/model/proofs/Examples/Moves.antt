-- A child that moves from one parent to another.
use Rattle.std.proofs.Common.{◌≡◌, List, [], ◌∷◌, inl, inr, refl, ap, arith}
use Rattle.schema.specs.NodeData.{NodeData}
use Rattle.model.specs.declared.FullNodeId.{FullNodeId}
use Rattle.model.specs.World.{World}
use Rattle.model.specs.World as world
use Rattle.model.specs.Update.{ListedTwice, Stands, IsAccepted, merged_world}
use Rattle.model.specs.Examples.{at, node, window, container, button, plain_tree, before_move, after_move, half_a_move, whole_move}
use Rattle.model.proofs.Examples.Tools.{◌▸◌, lists_at}
use Rattle.model.proofs.Examples.Tested.{IsWritten, merged_written, node_in, reached_by, root_tree_again, accepted_by_tests}
use Rattle.model.proofs.Examples.Worlds.{one_tree, before_move_written, after_move_written}

pub moved_child_with_both_parents_is_accepted : IsAccepted before_move whole_move after_move
moved_child_with_both_parents_is_accepted =
    accepted_by_tests whole_move before_move_written (node 0) refl after_move_written (refl, refl, refl)
    (root_tree_again whole_move before_move_written refl refl refl)
    (refl ▸ tt, refl ▸ refl ▸ refl ▸ refl ▸ tt) refl plain_tree refl refl refl

-- ---- without its old parent

abbrev half : World
half = merged_world before_move half_a_move

abbrev half_nodes : List (FullNodeId × NodeData)
half_nodes = (at 0 0, window (1 ∷ 2 ∷ [])) ∷ (at 0 1, container (3 ∷ [])) ∷ (at 0 2, container (3 ∷ [])) ∷ (at 0 3, button) ∷ []

half_written : IsWritten half one_tree half_nodes
half_written = merged_written before_move half_a_move before_move_written (node 0) refl

pub moved_child_without_its_old_parent_is_listed_twice : Stands before_move half_a_move (ListedTwice (node 3))
moved_child_without_its_old_parent_is_listed_twice = (
  at 0 3,
  refl,
  (at 0 1, 0),
  (inr (world.Kept.root, reached_by half_written 1 (at 0 1) refl), lists_at half (at 0 1) (container (3 ∷ [])) 0 (at 0 3) (node_in half_written (at 0 1)) refl),
  inl ((at 0 2, 0), (λ e. let n : 1 ≡ 2 = ap (λ p. p.0.node.0) e in omega arith), (inl (refl, (0, omega arith, refl)), lists_at half (at 0 2) (container (3 ∷ [])) 0 (at 0 3) (node_in half_written (at 0 2)) refl)),
)
