-- The world that a plan makes of a world.
use Rattle.std.specs.Prelude.{ℕ, List, [], ◌∷◌, ◌++◌, length, Option, Some, None, ◌==◌, if◌then◌else◌}
use Rattle.std.specs.Option.{option_map, option_map_or}
use Rattle.std.specs.FinMap.{FinMap, get}
use Rattle.std.specs.String.{string_bytes}
use Rattle.std.specs.declared.string.String.{String}
use Rattle.std.specs.declared.alloc.Global.{Global}
use Rattle.schema.specs.NodeData.{NodeData}
use Rattle.schema.specs.declared.TreeId.{TreeId}
use Rattle.model.specs.FullIds.{full_cmp}
use Rattle.model.specs.World.{World}
use Rattle.tree_changes.specs.declared.look_ups.TreeRecord.{TreeRecord}
use Rattle.tree_plan.specs.declared.plan.Change.{Change}
use Rattle.tree_plan.specs.declared.plan.Change.TheVariants.{Put, Gone, Tree as TreeChange}
use Rattle.tree_plan.specs.declared.plan.Plan.{Plan}
use Rattle.tree_changes.specs.Changes.{set_at, put_trees}

-- the changes of trees
abbrev pub tree_changes : List Change → List TreeRecord
tree_changes [] = []
tree_changes (Put id place given ∷ cs) = tree_changes cs
tree_changes (Gone id ∷ cs) = tree_changes cs
tree_changes (TreeChange t ∷ cs) = t ∷ tree_changes cs

-- the nodes after the changes; of two changes of one node the first counts
abbrev pub nodes_changed : FinMap full_cmp NodeData → List Change → FinMap full_cmp NodeData
nodes_changed m [] = m
nodes_changed m (Put id place (Some d) ∷ cs) = set_at (nodes_changed m cs) id (Some d)
nodes_changed m (Put id place None ∷ cs) = set_at (nodes_changed m cs) id (get m id)
nodes_changed m (Gone id ∷ cs) = set_at (nodes_changed m cs) id None
nodes_changed m (TreeChange t ∷ cs) = nodes_changed m cs

-- a name that gets the next index is known from then on
abbrev pub name_tree : List TreeId → TreeRecord → List TreeId
name_tree known r = option_map_or (λ index. if index == length known then known ++ r.id ∷ [] else known) r.index known

abbrev pub name_trees : List TreeId → List TreeRecord → List TreeId
name_trees known [] = known
name_trees known (r ∷ rs) = name_trees (name_tree known r) rs

abbrev pub replaced_texts : Option (Option (String Global) × Option (String Global)) → Option (List ℕ) × Option (List ℕ)
    → Option (List ℕ) × Option (List ℕ)
replaced_texts None before = before
replaced_texts (Some texts) before = (option_map string_bytes texts.0, option_map string_bytes texts.1)

-- the world that a plan makes of this world
abbrev pub planned_world : World → Plan → World
planned_world w p = record w {
  known = name_trees w.known (tree_changes p.changes.items);
  trees = put_trees w.trees (tree_changes p.changes.items);
  nodes = nodes_changed w.nodes p.changes.items;
  toolkit = replaced_texts p.toolkit w.toolkit;
}
