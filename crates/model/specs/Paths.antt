-- The way from the root to a node, as the index of each child on it.
use Rattle.std.specs.Prelude.{◌≡◌, ℕ, List, length, map, reverse, drop}
use Rattle.std.specs.Ordering.{nat_cmp}
use Rattle.std.specs.Cmp.Lexicographic.{slice_cmp}
use Rattle.std.specs.declared.cmp.Ordering.TheVariants.{Less}
use Rattle.model.specs.declared.FullNodeId.{FullNodeId}
use Rattle.model.specs.World.{World}
use Rattle.model.specs.Forest.{above}

-- how many places are above a node: 0 for the root
abbrev pub depth : World → FullNodeId → ℕ
depth w id = length (above w id)

-- the indices of the children that lead from the root to a node
abbrev pub index_path : World → FullNodeId → List ℕ
index_path w id = reverse (map (λ p. p.1) (above w id))

-- the rest of a node's path after that of a node that it is within
abbrev pub relative_index_path : World → FullNodeId → FullNodeId → List ℕ
relative_index_path w top id = drop (depth w top) (index_path w id)

-- in the lexicographic order: at the first index that differs the first path has the lower one, or it ends there
abbrev pub IsBefore : List ℕ → List ℕ → Type 0
IsBefore p q = slice_cmp nat_cmp p q ≡ Less
