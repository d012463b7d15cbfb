-- When a difference of two worlds can be reported to a handler.
use Rattle.model.specs.World.{World, IsNode}
use Rattle.model.specs.Focus.{IsFocus}
use Rattle.model.specs.declared.events.PlanEvent.{PlanEvent}
use Rattle.model.specs.declared.events.PlanEvent.TheVariants.{Added, Updated, FocusMoved, Removed}

-- the nodes that an event shows exist
abbrev pub IsTellable : World → World → PlanEvent → Type 0
IsTellable old new (Added id) = IsNode new id
IsTellable old new (Updated id) = IsNode old id × IsNode new id
IsTellable old new (FocusMoved before after) = IsFocus old before × IsFocus new after
IsTellable old new (Removed id) = IsNode old id
