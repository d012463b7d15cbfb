-- Positions of a text, as they are found in it.
use Rattle.std.proofs.Common.{◌≡◌, ℕ, ◌==◌, Option, Some, None, ap, ◌∙◌}
use Rattle.std.specs.Option.{option_map_or}
use Rattle.model.specs.FlatText.{Position}
use Rattle.model.specs.Moves.{to_global_usv_index}
use Rattle.views.specs.declared.node.node_ref.NodeRef.{NodeRef}
use Rattle.texts.specs.declared.position.TextPosition.{TextPosition}
use Rattle.texts.specs.FoundRanges.{IsAtFound}
use Rattle.texts.specs.Positions.{node_text, position_text, flat_position}
use Rattle.phrases.specs.Voices.{Speech}
use Rattle.speaking.specs.Carets.{is_at, is_place, reached_said}

pub place_found : (n : NodeRef) (q : Option Position) (found : Option TextPosition) (place : ℕ) → IsAtFound n q found →
    is_at found place ≡ is_place (node_text n) q place
place_found n q None place h = ap (λ o. is_place (node_text n) o place) h.at
place_found n q (Some p) place h =
    ap (λ r. to_global_usv_index (node_text r) (flat_position p) == place) h.same
    ∙ ap (λ o. is_place (node_text n) o place) h.at

-- what is said at a caret that is found is said at the place of it
pub place_reached : (n : NodeRef) (q : Option Position) (caret : TextPosition) (before : ℕ) (v : Speech) → IsAtFound n q (Some caret) →
    reached_said (position_text caret) before v (flat_position caret) ≡ option_map_or (reached_said (node_text n) before v) q v
place_reached n q caret before v h =
    ap (λ r. reached_said (node_text r) before v (flat_position caret)) h.same
    ∙ ap (λ o. option_map_or (reached_said (node_text n) before v) o v) h.at
