-- The nodes found in a tree.
use Rattle.std.specs.Prelude.{ℕ, Bool, List, [], ◌∷◌, ◌++◌, ◌==◌, nat_lt, filter, if◌then◌else◌}
use Rattle.std.specs.Option.{option_map_or}
use Rattle.model.specs.declared.FullNodeId.{FullNodeId}
use Rattle.model.specs.World.{World, root_of}
use Rattle.model.specs.Covers.{is_included}
use Rattle.model.specs.Filters.{common_filter}
use Rattle.views.specs.Descendants.{filtered_descendants}
use Rattle.find.specs.Wanted.{Sought, is_wanted}

-- what the common filter shows, from a node on
abbrev pub shown_from : World → FullNodeId → List FullNodeId
shown_from w top = (if is_included (common_filter w top) then top ∷ [] else []) ++ filtered_descendants (common_filter w) w top

abbrev pub found : Sought → World → FullNodeId → List FullNodeId
found sought w top = filter (is_wanted sought w) (shown_from w top)

-- in the whole tree
abbrev pub found_in : Sought → World → List FullNodeId
found_in sought w = option_map_or (found sought w) (root_of w 0) []

-- whether as many are found as are asked for: one, or one or more
abbrev pub is_enough : Bool → ℕ → Bool
is_enough any_number count = if any_number then nat_lt 0 count else count == 1
