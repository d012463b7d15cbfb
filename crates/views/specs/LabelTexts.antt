-- A label that is made of the parts of other nodes.
use Rattle.std.specs.Prelude.{ℕ, List, ◌∷◌, Bool, if◌then◌else◌, is_some, filter_map}
use Rattle.std.specs.List.{flat_map, join_with_byte}
use Rattle.model.specs.declared.FullNodeId.{FullNodeId}
use Rattle.model.specs.World.{World}
use Rattle.model.specs.Labels.{label_part, joined_text}

-- the parts of these nodes
abbrev pub parts_of : List (World × FullNodeId) → List (List ℕ)
parts_of nodes = filter_map (λ n. label_part n.0 n.1) nodes

-- a part, after a space if it isn't the first
abbrev pub spaced : Bool → List ℕ → List ℕ
spaced is_later part = if is_later then 32 ∷ part else part

-- these parts, with or without another one before them
abbrev pub rest_of_label : Bool → List (List ℕ) → List ℕ
rest_of_label is_later parts = if is_later then flat_map (spaced is_later) parts else join_with_byte 32 parts

-- whether there is a part
abbrev pub has_parts : List (List ℕ) → Bool
has_parts parts = is_some (joined_text parts)
