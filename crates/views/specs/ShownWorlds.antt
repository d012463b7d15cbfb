-- The world that a view of a state shows.
use Rattle.model.specs.World.{World}
use Rattle.views.specs.Sound.{laid_world}
use Rattle.views.specs.declared.laid.Laid.{Laid}
use Rattle.views.specs.declared.state_ref.Shown.{Shown}
use Rattle.views.specs.declared.state_ref.Shown.TheVariants as shown
use Rattle.views.specs.declared.state_ref.StateRef.{StateRef}

-- the state with what is laid over it
abbrev pub world_laid : Laid → World
world_laid l = record (laid_world l.base.now.world l.overlay) { host_focused = l.is_host_focused }

abbrev pub world_shown : Shown → World
world_shown (shown.Stored base) = base.now.world
world_shown (shown.Laid laid) = world_laid laid.now

abbrev pub world_of : StateRef → World
world_of s = world_shown s.shown
