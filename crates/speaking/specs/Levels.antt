-- The level of a heading, and how deep an item is in a tree.
use Rattle.std.specs.Prelude.{ℕ, ◌-◌, ◌^◌, min, Bool, Option, Some, None, cond, count_by, if◌then◌else◌}
use Rattle.std.specs.Option.{option_or}
use Rattle.schema.specs.NodeData.{NodeData}
use Rattle.schema.specs.Roles.{same_role}
use Rattle.schema.specs.declared.Role.TheVariants.{TreeItem}
use Rattle.model.specs.declared.FullNodeId.{FullNodeId}
use Rattle.model.specs.Upward.{says, upward}
use Rattle.model.specs.World.{World}

abbrev pub is_tree_item : NodeData → Bool
is_tree_item d = same_role d.role TreeItem

-- how much deeper than its parent a node is
abbrev pub own_depth : NodeData → ℕ
own_depth d = cond (is_tree_item d) 1 0

-- in how many items of trees a node is, with itself, as far as a machine counts
abbrev pub depth_in_tree : World → FullNodeId → ℕ
depth_in_tree w id = min (count_by (says is_tree_item w) (upward w id)) (2 ^ 64 - 1)

-- the level that is sent, or else, of an item in a tree, how deep it is there
abbrev pub level_said : World → FullNodeId → NodeData → Option ℕ
level_said w id d = option_or d.level (if is_tree_item d then Some (depth_in_tree w id) else None)
