-- What is proved of queries.
use Rattle.std.specs.Prelude.{◌≡◌, ◌↔◌, Option, Some, IsSome}
use Rattle.schema.specs.declared.NodeId.{NodeId}
use Rattle.schema.specs.declared.TreeId.{TreeId}
use Rattle.schema.specs.declared.values.TextPosition.{TextPosition}
use Rattle.model.specs.declared.FullNodeId.{FullNodeId}
use Rattle.model.specs.World.{World, local_id_of}
use Rattle.model.specs.State.{IsState}
use Rattle.model.specs.Focus.{IsFocus}
use Rattle.model.specs.FocusFound.{shown_focus}
use Rattle.model.specs.FlatText.{FlatText, Position, IsPosition}
use Rattle.model.specs.Ranges.{IsRaw}
use Rattle.model.specs.Queries.{node_named, raw_of}

-- the node with a name is the one with this id in its tree and this tree
abbrev pub NamedNodeIsLocated : Type 0
NamedNodeIsLocated =
    (w : World) (name : NodeId × TreeId) (id : FullNodeId) → IsState w → (node_named w name ≡ Some id) ↔ (local_id_of w id ≡ Some name)

-- `shown_focus` is the focus, and nothing else is
abbrev pub ShownFocusIsFocus : Type 0
ShownFocusIsFocus = (w : World) (focus : Option FullNodeId) → IsState w → IsFocus w focus ↔ (focus ≡ shown_focus w)

-- the raw form of a position is its name
abbrev pub RawIsName : Type 0
RawIsName = (t : FlatText) (p : Position) (raw : TextPosition) → IsRaw t p raw ↔ (raw_of t p ≡ Some raw)

-- and each position of a text has one
abbrev pub PositionHasRaw : Type 0
PositionHasRaw = (t : FlatText) (p : Position) → IsPosition t p → IsSome (raw_of t p)
