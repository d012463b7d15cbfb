-- What is printed of a search.
use Rattle.std.specs.Prelude.{ℕ, Bool, List, [], ◌++◌, if◌then◌else◌}
use Rattle.std.specs.Option.{option_map_or}
use Rattle.model.specs.declared.FullNodeId.{FullNodeId}
use Rattle.model.specs.World.{World, root_of}
use Rattle.find.specs.Found.{found}
use Rattle.find.specs.Wanted.{Sought}
use Rattle.find.specs.Near.{hints}
use Rattle.find.specs.Printed.{nodes_text}

-- the nodes below a top that are found, or that there is none; and which come near, if that is to be told
abbrev pub told_with : Bool → Sought → World → FullNodeId → List ℕ
told_with near sought w top = nodes_text w top (found sought w top) ++ (if near then hints sought w top (found sought w top) else [])

-- the same of the whole tree
abbrev pub told_in : Bool → Sought → World → List ℕ
told_in near sought w = option_map_or (told_with near sought w) (root_of w 0) []
