-- Nodes of one role.
use Rattle.std.specs.Prelude.{List, filter}
use Rattle.schema.specs.Roles.{same_role}
use Rattle.schema.specs.declared.Role.{Role}
use Rattle.model.specs.declared.FullNodeId.{FullNodeId}
use Rattle.model.specs.World.{World}
use Rattle.model.specs.Upward.{says}

-- those of these nodes that have the role
abbrev pub of_role : World → Role → List FullNodeId → List FullNodeId
of_role w role ids = filter (says (λ d. same_role d.role role) w) ids
