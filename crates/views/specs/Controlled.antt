-- What a walk over named nodes has left.
use Rattle.std.specs.Prelude.{ℕ, Bool, true, false, List, [], ◌∷◌, ◌++◌, map, filter_map}
use Rattle.schema.specs.declared.NodeId.{NodeId}
use Rattle.model.specs.declared.FullNodeId.{FullNodeId}
use Rattle.model.specs.World.{World, in_tree}
use Rattle.model.specs.Upward.{if_there}
use Rattle.views.specs.declared.walks.controls.Controls.{Controls}
use Rattle.views.specs.ShownWorlds.{world_of}
use Rattle.views.specs.PlainWalks.{node_in}

-- the existing nodes of the tree with this index, as a walk returns them
abbrev pub named_nodes : World → ℕ → List NodeId → List (World × FullNodeId)
named_nodes w tree ids = map (node_in w) (filter_map (λ n. if_there w (in_tree tree n)) ids)

abbrev pub controls_left : Controls → List (World × FullNodeId)
controls_left s = named_nodes (world_of s.state) s.tree s.ids.now

-- an item before the others, or after them
abbrev pub joined_at : {A : Type 0} → Bool → A → List A → List A
joined_at false x xs = x ∷ xs
joined_at true x xs = xs ++ x ∷ []
