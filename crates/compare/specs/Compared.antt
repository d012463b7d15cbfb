-- What is told of two trees.
use Rattle.std.specs.Prelude.{◌≡◌, ◌≢◌, ℕ, List, [], All, Bool, true, false, map, Option}
use Rattle.std.specs.Io.KnownBytes.{Appends}
use Rattle.model.specs.declared.FullNodeId.{FullNodeId}
use Rattle.model.specs.World.{World}
use Rattle.views.specs.declared.node.node_ref.NodeRef.{NodeRef}
use Rattle.views.specs.Nodes.{world_at, id_at}
use Rattle.compare.specs.Rows.{shown_of}
use Rattle.compare.specs.declared.rows.Row.{Row}

abbrev pub text_of : Row → List ℕ
text_of row = row.text.items

-- these are nodes of the world, with these ids
pub record AreNodesOf (w : World) (ids : List FullNodeId) (nodes : List NodeRef) : Type 0 where
  pub world : All (λ n. world_at n ≡ w) nodes
  pub list : map id_at nodes ≡ ids

-- Nothing is printed exactly if what is shown of both is equal, and the answer says whether it is.
abbrev pub IsCompared : Option World → Option World → Option (List ℕ) → Option (List ℕ) → Bool → Type 0
IsCompared old new before after true = (shown_of old ≡ shown_of new) × Appends before after []
IsCompared old new before after false = (shown_of old ≢ shown_of new) × ((text : List ℕ) × (text ≢ []) × Appends before after text)
