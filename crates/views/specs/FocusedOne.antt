-- What the common filter knows on its way up.
use Rattle.std.specs.Prelude.{◌≡◌, List, Bool, Option, false, not, ◌&&◌, is_none, take_while}
use Rattle.std.specs.Option.{option_map_or}
use Rattle.std.specs.List.{list_any}
use Rattle.model.specs.declared.FullNodeId.{FullNodeId}
use Rattle.model.specs.World.{World}
use Rattle.model.specs.Forest.{is_same}
use Rattle.model.specs.FocusFound.{is_focused}
use Rattle.model.specs.Filters.{is_transparent, first_answer, is_clipped}

-- this node is focused and no other, or none is
pub record IsFocusedOne (w : World) (focused : Option FullNodeId) : Type 0 where
  pub at : (id : FullNodeId) → is_focused w id ≡ option_map_or (is_same id) focused false

-- a node that isn't focused and is excluded alone, unless it is hidden
abbrev pub is_passed : World → FullNodeId → Bool
is_passed w id = not (is_focused w id) && is_transparent w id

-- one of these nodes is clipped, before the first that decides its own answer
abbrev pub clipped_from : World → List FullNodeId → Bool
clipped_from w ids = list_any (is_clipped w) (take_while (λ a. is_none (first_answer w a)) ids)
