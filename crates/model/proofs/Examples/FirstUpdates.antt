-- A window with a button, from nothing.
use Rattle.std.proofs.Common.{false, inl, refl}
use Rattle.model.specs.State.{empty_world}
use Rattle.model.specs.Update.{IsAccepted}
use Rattle.model.specs.Examples.{node, plain_tree, plain, first_update}
use Rattle.model.proofs.Examples.Tools.{◌▸◌}
use Rattle.model.proofs.Examples.Tested.{accepted_by_tests}
use Rattle.model.proofs.Examples.Worlds.{nothing_written, plain_written}

pub first_update_is_accepted : IsAccepted (empty_world false) first_update plain
first_update_is_accepted =
    accepted_by_tests first_update nothing_written (node 0) refl plain_written (refl, refl, refl) (inl (record { first = refl; has_info = refl; for_root = refl })) (refl ▸ tt, refl ▸ refl ▸ tt) refl plain_tree refl refl refl
