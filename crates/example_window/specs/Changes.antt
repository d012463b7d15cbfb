-- What the counts are after an event.
use Rattle.std.specs.Prelude.{ℕ, ◌+◌, ◌-◌, ◌^◌, min}
use Rattle.std.specs.Option.{option_map}
use Rattle.model.specs.Events.{Event, NodeAdded, NodeUpdated, FocusMoved, NodeRemoved}
use Rattle.example_window.specs.declared.Changes.{Changes}

-- one more, as far as 64 bits go
abbrev pub one_more : ℕ → ℕ
one_more n = min (n + 1) (2 ^ 64 - 1)

abbrev pub after : Changes → Event → Changes
after c (NodeAdded new) = record c { added = one_more c.added }
after c (NodeUpdated old new) = record c { updated = one_more c.updated }
after c (FocusMoved old new) = record c { focus = option_map (λ seen. seen.id) new }
after c (NodeRemoved old) = record c { removed = one_more c.removed }
