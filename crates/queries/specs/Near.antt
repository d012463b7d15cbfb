-- What there is in place of a node that isn't found.
use Rattle.std.specs.Prelude.{◌≡◌, ℕ, List, [], ◌∷◌, ◌++◌, Bool, true, false, map, Option, Some, None, string_bytes, if◌then◌else◌}
use Rattle.std.specs.List.{fold, filter_map, list_any}
use Rattle.std.specs.Option.{option_map_or}
use Rattle.schema.specs.declared.Role.{Role}
use Rattle.schema.specs.Roles.{same_role}
use Rattle.model.specs.Labels.{label_of}
use Rattle.views.specs.declared.node.node_ref.NodeRef.{NodeRef}
use Rattle.views.specs.Nodes.{world_at, id_at, data_at}
use Rattle.queries.specs.Found.{has_role}
use Rattle.queries.specs.declared.error.Near.{Near}
use Rattle.queries.specs.declared.error.Near.TheVariants.{Labels, Roles}

-- the label of a node with this role
abbrev pub label_by : Role → NodeRef → Option (List ℕ)
label_by role n = if has_role (Some role) (world_at n) (id_at n) then label_of (world_at n) (id_at n) else None

abbrev pub is_among : List Role → Role → Bool
is_among roles role = list_any (λ r. same_role r role) roles

abbrev pub with_role : List Role → Role → List Role
with_role roles role = if is_among roles role then roles else roles ++ role ∷ []

-- the roles of these nodes, each once, in the order in which they first stand
abbrev pub roles_of : List NodeRef → List Role
roles_of nodes = fold with_role [] (map (λ n. (data_at n).role) nodes)

-- whether this role is asked for, and one of these nodes has it
abbrev pub is_asked : Option Role → List NodeRef → Bool
is_asked role nodes = option_map_or (is_among (roles_of nodes)) role false

-- the labels of these nodes that have the role, in order
abbrev pub labels_of : Option Role → List NodeRef → List (List ℕ)
labels_of None nodes = []
labels_of (Some role) nodes = filter_map (label_by role) nodes

-- the labels of the role if one of these nodes has it, and else their roles
abbrev pub IsNear : Option Role → List NodeRef → Near → Type 0
IsNear role nodes (Labels labels) = (is_asked role nodes ≡ true) × (map string_bytes labels.items ≡ labels_of role nodes)
IsNear role nodes (Roles roles) = (is_asked role nodes ≡ false) × (roles.items ≡ roles_of nodes)
