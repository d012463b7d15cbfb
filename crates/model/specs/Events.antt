-- The events that a handler receives, as plain values.
use Rattle.std.specs.Prelude.{◌≡◌, List, [], ◌∷◌, Option}
use Rattle.model.specs.declared.FullNodeId.{FullNodeId}
use Rattle.model.specs.World.{World}

-- what a view shows: a node, and the world in which it is read
pub record Seen : Type 0 where
  pub world : World
  pub id : FullNodeId

abbrev pub seen_in : World → FullNodeId → Seen
seen_in w id = record { world = w; id = id }

-- One call of a handler. An old node is read in the world before, a new one in the world after.
pub data Event : Type 0 where
  NodeAdded : (new : Seen) → Event
  NodeUpdated : (old new : Seen) → Event
  FocusMoved : (old new : Option Seen) → Event
  NodeRemoved : (old : Seen) → Event

-- after receiving these events in turn, the handler s has become t
abbrev pub Told : {H : Type 0} → (H → Event → H → Type 0) → H → List Event → H → Type 0
Told steps s [] t = s ≡ t
Told {H} steps s (e ∷ es) t = (m : H) × (steps s e m × Told steps m es t)
