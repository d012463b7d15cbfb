-- How far a count of look-ups has risen.
use Rattle.std.specs.Prelude.{ℕ, ◌+◌, ◌*◌, length, List}
use Rattle.model.specs.Update.{UpdateData}
use Rattle.model.specs.World.{World}
use Rattle.model.specs.Events.{Event}
use Rattle.model.specs.Run.{ToUpdate, Accepted, Does}
use Rattle.tree_changes.specs.declared.decision.Decision.{Decision}
use Rattle.tree_changes.specs.LookUps.{IsRaisedAtLeast}

-- two are counted for each event of the accepted update
abbrev pub CountsEvents : World → UpdateData → World → ℕ → ℕ → Type 0
CountsEvents old u new before after =
    (told : List Event) → Does old (ToUpdate u) new told Accepted → IsRaisedAtLeast before (2 * length told) after

-- and one for each of its nodes
abbrev pub CountsLookUps : World → UpdateData → World → ℕ → ℕ → Type 0
CountsLookUps old u new before after =
    (told : List Event) → Does old (ToUpdate u) new told Accepted → IsRaisedAtLeast before (length u.nodes + 2 * length told) after

-- the events and the changes of a decision
abbrev pub change_count : Decision → ℕ
change_count d = length d.events.items + (length d.nodes.items + length d.trees.items)
