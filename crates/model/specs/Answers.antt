-- The answers to queries.
use Rattle.std.specs.Prelude.{ℕ, List, Option}
use Rattle.schema.specs.declared.values.TextPosition.{TextPosition}
use Rattle.model.specs.declared.FullNodeId.{FullNodeId}

pub data Answer : Type 0 where
  Ids : (ids : List FullNodeId) → Answer
  -- as bytes
  Text : (text : Option (List ℕ)) → Answer
  Set : (size position : Option ℕ) → Answer
  Node : (node : Option FullNodeId) → Answer
  Position : (position : Option TextPosition) → Answer
  Indexes : (usv utf16 line : ℕ) → Answer
  -- the node doesn't exist
  NoNode : Answer
  -- the node has no text, or the index is out of range
  NotText : Answer
