-- Positions in the text of a root.
use Rattle.std.specs.Prelude.{◌≡◌}
use Rattle.model.specs.FlatText.{FlatText, flat_text, Position}
use Rattle.views.specs.declared.node.node_ref.NodeRef.{NodeRef}
use Rattle.texts.specs.declared.position.TextPosition.{TextPosition}
use Rattle.views.specs.Nodes.{world_at, id_at}
use Rattle.text_boundaries.specs.RunNumbers.{number_in}

-- the node whose text it is, and the text
abbrev pub root_at : TextPosition → NodeRef
root_at p = p.run.root

abbrev pub node_text : NodeRef → FlatText
node_text n = flat_text (world_at n) (id_at n)

abbrev pub position_text : TextPosition → FlatText
position_text p = node_text (root_at p)

-- the number of its run, and the index in that
abbrev pub flat_position : TextPosition → Position
flat_position p = record { run = number_in p.run; index = p.index }

-- it is this position of the root's text
pub record IsPositionAt (root : NodeRef) (q : Position) (p : TextPosition) : Type 0 where
  pub same : root_at p ≡ root
  pub at : flat_position p ≡ q

-- the second position is this movement from the first
abbrev pub IsMoved : (FlatText → Position → Position) → TextPosition → TextPosition → Type 0
IsMoved move p q = IsPositionAt (root_at p) (move (position_text p) (flat_position p)) q
