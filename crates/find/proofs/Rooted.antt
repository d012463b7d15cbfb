-- What is found from the root on is what is found in the whole tree.
use Rattle.std.proofs.Common.{◌≡◌, Bool, [], Option, Some, ap}
use Rattle.std.specs.Option.{option_map_or}
use Rattle.model.specs.declared.FullNodeId.{FullNodeId}
use Rattle.model.specs.World.{World, root_of}
use Rattle.find.specs.Found.{found, found_in}
use Rattle.find.specs.Told.{told_in, told_with}
use Rattle.find.specs.Wanted.{Sought}

module _ (sought : Sought) (w : World) (root : FullNodeId) (is_root : root_of w 0 ≡ Some root) where
  pub found_from_root : found_in sought w ≡ found sought w root
  found_from_root = ap (λ (o : Option FullNodeId). option_map_or (found sought w) o []) is_root

  pub told_from_root : (near : Bool) → told_in near sought w ≡ told_with near sought w root
  told_from_root near = ap (λ (o : Option FullNodeId). option_map_or (told_with near sought w) o []) is_root
