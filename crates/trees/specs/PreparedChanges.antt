-- What a prepared change makes of a state, and what is reserved for it.
use Rattle.std.specs.Prelude.{List}
use Rattle.schema.specs.UpdateData.{update_data}
use Rattle.model.specs.declared.events.PlanEvent.{PlanEvent}
use Rattle.model.specs.State.{with_host}
use Rattle.model.specs.World.{World}
use Rattle.tree_changes.specs.Changes.{overlaid_world}
use Rattle.tree_changes.specs.Decisions.{IsDecision}
use Rattle.tree_store.specs.Commits.{IsReadyFor}
use Rattle.tree_store.specs.StoreViews.{StoreView, IsTight}
use Rattle.trees.specs.declared.prepared.Change.{Change}
use Rattle.trees.specs.declared.prepared.Change.TheVariants as change
use Rattle.trees.specs.declared.prepared.NewState.{NewState}
use Rattle.views.specs.ShownWorlds.{world_laid}

abbrev pub world_after : World → Change → World
world_after w (change.Update update decision) = overlaid_world w (update_data update) decision
world_after w (change.HostFocus is_host_focused events) = with_host w is_host_focused

abbrev pub events_of : Change → List PlanEvent
events_of (change.Update update decision) = decision.events.items
events_of (change.HostFocus is_host_focused events) = events.items

-- the decision is one on the update, and there is room for what it changes; a focus of the host needs none
abbrev pub IsPrepared : StoreView → Change → Type 0
IsPrepared k (change.Update update decision) = IsReadyFor k (update_data update) decision × IsDecision k.world (update_data update) decision
IsPrepared k (change.HostFocus is_host_focused events) = IsTight k

abbrev pub new_world : NewState → World
new_world s = world_laid s.laid
