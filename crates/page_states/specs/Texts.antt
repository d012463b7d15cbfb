-- The texts that a state shows of a node, and the value that was last asked for.
use Rattle.std.specs.Prelude.{◌≡◌, ℕ, List, Option, IfSome, option_copied, option_map, string_bytes}
use Rattle.model.specs.declared.FullNodeId.{FullNodeId}
use Rattle.model.specs.World.{World}
use Rattle.model.specs.Values.{value_of}
use Rattle.views.specs.Nodes.{world_at, id_at}
use Rattle.page_states.specs.declared.places.Place.{Place}
use Rattle.page_states.specs.declared.shown_texts.Texts.{Texts}
use Rattle.page_states.specs.declared.shown_texts.Told.{Told}
use Rattle.page_states.specs.Said.{label_shown, value_shown}

abbrev pub told_value : Told → Option (List ℕ)
told_value told = option_map string_bytes told.value

-- it is the value of its source
abbrev pub IsTold : World → Told → Type 0
IsTold w told = IfSome told.source (λ source. value_of w source ≡ told_value told)

-- this is the value that is shown of the node
abbrev pub HasValue : Place → Option (List ℕ) → Type 0
HasValue place value = value ≡ value_shown place.hidden.value (world_at place.node) (id_at place.node)

-- what is shown of the node is the value of this one
abbrev pub HasItsValue : Place → FullNodeId → Type 0
HasItsValue place source = HasValue place (value_of (world_at place.node) source)

-- these are its texts
pub record IsShown (place : Place) (texts : Texts) : Type 0 where
  pub label : option_copied texts.label ≡ label_shown place.hidden.label (world_at place.node) (id_at place.node)
  pub value : HasValue place (option_copied texts.value)
