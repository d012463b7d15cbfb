-- The names of a world that something is kept of.
use Rattle.std.specs.Prelude.{◌≡◌, Some, IsSome, ◌⊎◌}
use Rattle.schema.specs.declared.TreeId.{TreeId}
use Rattle.model.specs.declared.FullNodeId.{FullNodeId}
use Rattle.model.specs.World.{World, index_of, graft_name}

-- the name is known, or a node grafts a tree with it
abbrev pub IsUsed : World → TreeId → Type 0
IsUsed w name = IsSome (index_of w name) ⊎ ((graft : FullNodeId) × (graft_name w graft ≡ Some name))
