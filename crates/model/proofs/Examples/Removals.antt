-- A child that is listed no more goes.
use Rattle.std.proofs.Common.{refl}
use Rattle.model.specs.Update.{IsAccepted}
use Rattle.model.specs.Examples.{node, plain_tree, plain, button_goes, window_alone}
use Rattle.model.proofs.Examples.Tools.{◌▸◌}
use Rattle.model.proofs.Examples.Tested.{root_tree_again, accepted_by_tests}
use Rattle.model.proofs.Examples.Worlds.{plain_written, window_written}

pub child_that_is_listed_no_more_goes : IsAccepted plain button_goes window_alone
child_that_is_listed_no_more_goes =
    accepted_by_tests button_goes plain_written (node 0) refl window_written (refl, refl, refl)
    (root_tree_again button_goes plain_written refl refl refl)
    (refl ▸ tt, refl ▸ tt) refl plain_tree refl refl refl
