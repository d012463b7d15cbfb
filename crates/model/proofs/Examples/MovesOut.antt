-- A graft that moves out of a tree that goes keeps its tree.
use Rattle.std.proofs.Common.{◌≡◌, Some, refl}
use Rattle.model.specs.World.{index_of}
use Rattle.model.specs.Update.{IsAccepted}
use Rattle.model.specs.Examples.{node, name, plain_tree, nested, graft_moves_out, moved_out}
use Rattle.model.proofs.Examples.Tools.{◌▸◌}
use Rattle.model.proofs.Examples.Tested.{root_tree_again, accepted_by_tests}
use Rattle.model.proofs.Examples.Worlds.{nested_written, moved_out_written}

pub graft_that_moves_out_keeps_its_tree : IsAccepted nested graft_moves_out moved_out
graft_that_moves_out_keeps_its_tree =
    accepted_by_tests graft_moves_out nested_written (node 0) refl moved_out_written (refl, refl, refl)
    (root_tree_again graft_moves_out nested_written refl refl refl)
    (refl ▸ refl ▸ tt, refl ▸ refl ▸ refl ▸ refl ▸ tt) refl plain_tree refl refl refl

-- the dropped tree's name keeps its index
pub dropped_name_keeps_its_index : index_of moved_out (name 1) ≡ Some 1
dropped_name_keeps_its_index = refl
