-- A tree that is fed, as plain data.
use Rattle.std.specs.Prelude.{Bool, List, Option}
use Rattle.schema.specs.UpdateData.{UpdateData}
use Rattle.model.specs.World.{World}
use Rattle.fed_tree.specs.declared.events.Event.{Event}

-- the tree's world, once there is one; whether the host has the focus; the events of the last lines, or of what was sent last, if none
-- was lost; and the update that is begun, if one is
pub record Fed : Type 0 where
  pub world : Option World
  pub host : Bool
  pub events : Option (List Event)
  pub begun : Option UpdateData
