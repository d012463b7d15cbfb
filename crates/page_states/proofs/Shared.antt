-- What is shown of a node whose value isn't hidden is the value of its source.
use Rattle.std.proofs.Common.{◌≡◌, ℕ, false, List, Option, Some, None, sym, ap, ◌∙◌}
use Rattle.std.specs.Prelude.{IfSome, if◌then◌else◌}
use Rattle.model.specs.declared.FullNodeId.{FullNodeId}
use Rattle.model.specs.Values.{value_of}
use Rattle.hidden_texts.specs.Shown.{shown_value}
use Rattle.views.specs.Nodes.{world_at, id_at}
use Rattle.page_states.specs.declared.places.Place.{Place}
use Rattle.page_states.specs.Places.{IsPlace}
use Rattle.page_states.specs.Said.{value_shown}
use Rattle.page_states.specs.Sources.{HasValueOf}
use Rattle.page_states.specs.Texts.{HasItsValue, HasValue}

pub shown_as : (place : Place) → IsPlace place → place.hidden.value ≡ false → (source : Option FullNodeId) → IfSome source (HasValueOf (world_at place.node) (id_at place.node)) → IfSome source (HasItsValue place)
shown_as place is shown None has = tt
shown_as place is shown (Some source) has =
    let w = world_at place.node in
    let id = id_at place.node in
    sym
    (ap (λ h. value_shown h w id) shown ∙ ap (λ b. if b then shown_value w id else (if false then None else value_of w id)) has.plain ∙ has.value)

-- and a value that is shown of the node is that of its source
pub told_from : (place : Place) (source : Option FullNodeId) (value : Option (List ℕ)) → IfSome source (HasItsValue place) → HasValue place value → IfSome source (λ s. value_of (world_at place.node) s ≡ value)
told_from place None value has is = tt
told_from place (Some source) value has is = has ∙ sym is
