-- The filtered siblings of a node on either side.
use Rattle.std.specs.Prelude.{List, Bool, true, false}
use Rattle.model.specs.declared.FullNodeId.{FullNodeId}
use Rattle.model.specs.declared.filters.FilterResult.{FilterResult}
use Rattle.model.specs.World.{World}
use Rattle.model.specs.Covers.{following_filtered_siblings, preceding_filtered_siblings}

-- before it or after it, the nearest first
abbrev pub siblings_beside : Bool → (FullNodeId → FilterResult) → World → FullNodeId → List FullNodeId
siblings_beside true f w id = preceding_filtered_siblings f w id
siblings_beside false f w id = following_filtered_siblings f w id
