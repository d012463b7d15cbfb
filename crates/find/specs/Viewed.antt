-- Nodes that are viewed, and their names.
use Rattle.std.specs.Prelude.{◌≡◌, ℕ, List, [], ◌∷◌, ◌++◌, All, codes, flat_map, map}
use Rattle.role_names.specs.Names.{shown_name}
use Rattle.model.specs.declared.FullNodeId.{FullNodeId}
use Rattle.model.specs.World.{World}
use Rattle.views.specs.declared.node.node_ref.NodeRef.{NodeRef}
use Rattle.views.specs.Nodes.{world_at, id_at, data_at}
use Rattle.hidden_texts.specs.declared.passwords.Passwords.{Passwords}
use Rattle.hidden_texts.specs.Known.{AreRight}
use Rattle.find.specs.Printed.{label_text}

abbrev pub name_seen : NodeRef → List ℕ
name_seen n = codes " " ++ shown_name (data_at n).role ++ label_text (world_at n) (id_at n)

-- after a sign
abbrev pub later_seen : NodeRef → List ℕ
later_seen n = codes " >" ++ name_seen n

-- with a sign between each two
abbrev pub names_seen : List NodeRef → List ℕ
names_seen [] = []
names_seen (first ∷ others) = name_seen first ++ flat_map later_seen others

-- what is known of the node's state is right
abbrev pub IsKnownOf : Passwords → NodeRef → Type 0
IsKnownOf passwords n = AreRight (world_at n) passwords

-- nodes of this world, with these ids, in order
pub record AreNodes (w : World) (those : List FullNodeId) (nodes : List NodeRef) : Type 0 where
  pub world : All (λ n. world_at n ≡ w) nodes
  pub ids : map id_at nodes ≡ those
