-- What is said of the text of a masked password is said of it in each world of equal shape.
use Rattle.std.proofs.Common.{◌≡◌, subst}
use Rattle.model.specs.FlatText.{FlatText, Position}
use Rattle.model.proofs.Text.Secrets.{one_text}
use Rattle.views.specs.declared.node.node_ref.NodeRef.{NodeRef}
use Rattle.views.specs.Nodes.{world_at, id_at}
use Rattle.texts.specs.declared.position.TextPosition.{TextPosition}
use Rattle.texts.specs.Positions.{root_at, node_text, flat_position, IsMoved}
use Rattle.texts.specs.Secrets.{InEachText, IsMovedInEach}

pub in_each : (n : NodeRef) (said : FlatText → Type 0) → said (node_text n) → InEachText n said
in_each n said h v e = subst said (one_text (id_at n) (world_at n) v e) h

pub moved_in_each : (move : FlatText → Position → Position) (p q : TextPosition) → IsMoved move p q → IsMovedInEach move p q
moved_in_each move p q h = in_each (root_at p) (λ t. flat_position q ≡ move t (flat_position p)) h.at
