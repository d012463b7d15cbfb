-- A tree that is prepared for a change, as its contracts see it.
use Rattle.std.specs.Prelude.{◌≡◌, Bool, List, [], refl}
use Rattle.std.specs.Coded.{Coded, code_by, coded×, coded_list}
use Rattle.model.specs.declared.events.PlanEvent.{PlanEvent}
use Rattle.model.specs.contracts.events.PlanEvent.{the_row as event_row}
use Rattle.model.specs.Codes.{coded_world}
use Rattle.model.specs.Differences.{AreOfFocus}
use Rattle.model.specs.Run.{AreToldBy}
use Rattle.model.specs.State.{with_host}
use Rattle.model.specs.Update.{UpdateData, IsAccepted}
use Rattle.model.specs.World.{World}

-- the world before the change, the one after it, and what is reported of it
pub record BothStates : Type 0 where
  pub before : World
  pub after : World
  pub events : List PlanEvent

abbrev pub coded_both : Coded BothStates
coded_both =
    code_by (World × (World × List PlanEvent)) (coded× coded_world (coded× coded_world (coded_list event_row.coded)))
    (λ p. (p.before, (p.after, p.events))) (λ p. record { before = p.0; after = p.1.0; events = p.1.1 }) (λ _. refl)

-- it is prepared for this update of a tree: the update is accepted, and the events are the differences
abbrev pub IsPreparedFor : World → UpdateData → BothStates → Type 0
IsPreparedFor w u p = (p.before ≡ w) × IsAccepted w u p.after × AreToldBy w u p.after p.events

-- or for this focus of the host
abbrev pub IsPreparedForHost : World → Bool → BothStates → Type 0
IsPreparedForHost w focused p = (p.before ≡ w) × (p.after ≡ with_host w focused) × AreOfFocus w p.after [] p.events
