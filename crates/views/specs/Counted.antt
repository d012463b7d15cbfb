-- The nodes that a filter shows in place of a node's children, by number.
use Rattle.std.specs.Prelude.{ℕ, length, position, slice_get, Option, option_and_then}
use Rattle.model.specs.declared.FullNodeId.{FullNodeId}
use Rattle.model.specs.declared.filters.FilterResult.{FilterResult}
use Rattle.model.specs.World.{World}
use Rattle.model.specs.Forest.{is_same}
use Rattle.model.specs.Frontier.{filtered_children}
use Rattle.model.specs.Covers.{filtered_parent}

abbrev pub filtered_count : (FullNodeId → FilterResult) → World → FullNodeId → ℕ
filtered_count f w id = length (filtered_children f w id)

abbrev pub filtered_child : ℕ → (FullNodeId → FilterResult) → World → FullNodeId → Option FullNodeId
filtered_child index f w id = slice_get (filtered_children f w id) index

-- the index of the node among what is shown in place of the children of its filtered parent, if it is one of them
abbrev pub filtered_index : (FullNodeId → FilterResult) → World → FullNodeId → Option ℕ
filtered_index f w id = option_and_then (λ p. position (is_same id) (filtered_children f w p)) (filtered_parent f w id)
