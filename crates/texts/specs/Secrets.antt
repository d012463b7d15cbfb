-- What holds of the text of a masked password holds of it in each world that differs in that password alone.
use Rattle.std.specs.Prelude.{◌≡◌}
use Rattle.model.specs.FlatText.{FlatText, flat_text, Position}
use Rattle.views.specs.declared.node.node_ref.NodeRef.{NodeRef}
use Rattle.views.specs.Nodes.{id_at}
use Rattle.views.specs.Secrets.{InEachOfShape}
use Rattle.texts.specs.declared.position.TextPosition.{TextPosition}
use Rattle.texts.specs.Positions.{root_at, flat_position}

-- it holds of the root's text in each world of equal shape
abbrev pub InEachText : NodeRef → (FlatText → Type 0) → Type 0
InEachText root said = InEachOfShape root (λ v. said (flat_text v (id_at root)))

-- the second position is this movement from the first in each of these texts
abbrev pub IsMovedInEach : (FlatText → Position → Position) → TextPosition → TextPosition → Type 0
IsMovedInEach move p q = InEachText (root_at p) (λ t. flat_position q ≡ move t (flat_position p))
