-- What a page says of nodes.
use Rattle.std.specs.Prelude.{ℕ, List, [], ◌++◌, codes, Option, Some, None}
use Rattle.std.specs.Fmt.{decimal}
use Rattle.html.specs.Escaped.{element_text}
use Rattle.model.specs.declared.FullNodeId.{FullNodeId}

-- a space and a text in an element, if there is one
abbrev pub word_text : List ℕ → List ℕ → Option (List ℕ) → List ℕ
word_text name class None = []
word_text name class (Some word) = codes " " ++ element_text name class word

-- the name of the place at which a state shows a node
abbrev pub anchor_text : ℕ → FullNodeId → List ℕ
anchor_text state id = codes "s" ++ decimal state ++ codes "-" ++ decimal id.tree ++ codes "-" ++ decimal id.node.0

-- an id, as 1:2, in small letters
abbrev pub small_id : FullNodeId → List ℕ
small_id id = codes "<small>" ++ decimal id.tree ++ codes ":" ++ decimal id.node.0 ++ codes "</small>"
