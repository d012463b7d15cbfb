-- What is printed of a tree.
use Rattle.std.specs.Prelude.{ℕ, List, [], ◌++◌, codes, flat_map, if◌then◌else◌}
use Rattle.std.specs.Option.{option_map_or}
use Rattle.schema.specs.RoleNames.{role_text}
use Rattle.model.specs.declared.FullNodeId.{FullNodeId}
use Rattle.model.specs.World.{World, data_of, root_of}
use Rattle.model.specs.Lists.{ancestors, preorder}
use Rattle.model.specs.FocusFound.{is_focused}
use Rattle.atree_script.specs.Printed.{id_text}

-- two spaces for each of these nodes
abbrev pub spaces_for : List FullNodeId → List ℕ
spaces_for ids = flat_map (λ _. codes "  ") ids

abbrev pub role_of : World → FullNodeId → List ℕ
role_of w id = option_map_or (λ d. role_text d.role) (data_of w id) []

-- a star after the focused node
abbrev pub focus_mark : World → FullNodeId → List ℕ
focus_mark w id = if is_focused w id then codes " *" else []

-- an id, a role and what marks it on a line
abbrev pub named_line : FullNodeId → List ℕ → List ℕ → List ℕ
named_line id role mark = id_text id ++ codes " " ++ role ++ mark ++ codes "\n"

-- a node's line, after two spaces for each node above it
abbrev pub node_line : World → FullNodeId → List ℕ
node_line w id = spaces_for (ancestors w id) ++ named_line id (role_of w id) (focus_mark w id)

-- a line for each node of the tree, a parent before its children
abbrev pub tree_text : World → List ℕ
tree_text w = option_map_or (λ root. flat_map (node_line w) (preorder w root)) (root_of w 0) []
