-- What a view needs to read a world: if an update's changes are laid over it, that they are those of a decision on the update,
-- and that there are slots for them.
use Rattle.std.specs.Prelude.{Option, Some, None, refl, ◌||◌, is_some}
use Rattle.std.specs.Coded.{coded_bool, Coded-set, Π_prop}
use Rattle.std.specs.FinSet.{contains}
use Rattle.model.specs.World.{World, data_of}
use Rattle.tree_changes.specs.Changes.{change_at}
use Rattle.tree_store.specs.StoreViews.{StoreView}
use Rattle.tree_store.specs.Commits.{HasSlots}
use Rattle.tree_store.specs.declared.overlay.Overlay.{Overlay}
use Rattle.tree_store.specs.Overlays.{laid_over, IsLaidOver}

-- the world with the changes over it, if there are any
abbrev pub laid_world : World → Option Overlay → World
laid_world w None = w
laid_world w (Some o) = laid_over w o

abbrev pub IsSound : World → Option Overlay → Type 0
IsSound w None = Unit {0}
IsSound w (Some o) = IsLaidOver w o

abbrev pub HasRoom : StoreView → Option Overlay → Type 0
HasRoom k None = Unit {0}
HasRoom k (Some o) = HasSlots k o.decision.now

-- each has one proof at most, so a view can keep it
pub IsSound-prop : (w : World) (o : Option Overlay) → IsProp (IsSound w o)
IsSound-prop w None a b = refl
IsSound-prop w (Some o) a b = squash₁ a b

pub HasRoom-prop : (k : StoreView) (o : Option Overlay) → IsProp (HasRoom k o)
HasRoom-prop k None a b = refl
HasRoom-prop k (Some o) a b =
    Π_prop (λ id. Coded-set coded_bool (contains k.slots id) (is_some (data_of k.world id)
    || is_some (change_at o.decision.now.nodes.items id))) a b
