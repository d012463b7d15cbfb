-- Events as plain records.
use Rattle.std.specs.Prelude.{◌≡◌, List, [], ◌∷◌, ◌++◌, Option, Some, None, IfSome, IsSomeAnd, option_map}
use Rattle.model.specs.Events.{NodeAdded, NodeUpdated, FocusMoved, NodeRemoved}
use Rattle.model.specs.Events.{Event as ModelEvent}
use Rattle.fed_tree.specs.declared.events.Event.{Event}
use Rattle.fed_tree.specs.declared.events.EventKind.TheVariants as kind

-- the record of an event: the ids of the nodes that it shows
abbrev pub record_of : ModelEvent → Event
record_of (NodeAdded new) = record { kind = kind.Added; old = None; new = Some new.id }
record_of (NodeUpdated old new) = record { kind = kind.Updated; old = Some old.id; new = Some new.id }
record_of (FocusMoved old new) =
    record { kind = kind.FocusMoved; old = option_map (λ seen. seen.id) old; new = option_map (λ seen. seen.id) new }
record_of (NodeRemoved old) = record { kind = kind.Removed; old = Some old.id; new = None }

-- an event more is kept; once one is lost none are kept
abbrev pub Keeps : Option (List Event) → ModelEvent → Option (List Event) → Type 0
Keeps before event after = IfSome after (λ kept. IsSomeAnd before (λ earlier. kept ≡ earlier ++ record_of event ∷ []))
