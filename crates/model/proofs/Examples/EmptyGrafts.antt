-- The focus on a graft whose tree isn't there.
use Rattle.std.proofs.Common.{ℕ, List, [], ◌∷◌, refl}
use Rattle.model.specs.World.{ROOT_NAME, World, Tree}
use Rattle.model.specs.World as world
use Rattle.model.specs.Focus.{first}
use Rattle.model.specs.Update.{FocusOnEmptyGraft, Stands, merged_world}
use Rattle.model.specs.Examples as examples
use Rattle.model.specs.Examples.{at, node, name, empty_graft, focus_on_graft}
use Rattle.model.proofs.Examples.Tools.{◌▸◌}
use Rattle.model.proofs.Examples.Evidence.{none_stands_apart}
use Rattle.model.proofs.Examples.Tested.{IsWritten, IsTested, merged_written, tree_at, reached_by, grafts_in, root_tree_again, tested, tested_apart}
use Rattle.model.proofs.Examples.Worlds.{empty_graft_nodes, empty_graft_written, written}

abbrev focused : List (ℕ × Tree)
focused = (0, record { root = node 0; focus = node 1 }) ∷ []

-- what would be left, were there no rule on the focus
abbrev left : World
left = examples.world (ROOT_NAME ∷ []) focused empty_graft_nodes

abbrev m : World
m = merged_world empty_graft focus_on_graft

before : IsWritten m focused empty_graft_nodes
before = merged_written empty_graft focus_on_graft empty_graft_written (node 0) refl

shown : IsTested empty_graft focus_on_graft left focused empty_graft_nodes focused empty_graft_nodes
shown =
    tested focus_on_graft empty_graft_written (node 0) refl (written _ focused empty_graft_nodes) (refl, refl, refl)
    (root_tree_again focus_on_graft empty_graft_written refl refl refl) (refl ▸ tt, refl ▸ refl ▸ tt) refl

pub focus_on_an_empty_graft_is_refused : Stands empty_graft focus_on_graft (FocusOnEmptyGraft (name 1))
focus_on_an_empty_graft_is_refused = (
  none_stands_apart (tested_apart shown),
  (at 0 1, first (record { root = node 0; focus = node 1 }) (tree_at before 0), world.Kept.root, reached_by before 1 (at 0 1) refl, grafts_in before (at 0 1), refl),
)
