-- How the records of a store show a world.
use Rattle.std.specs.Prelude.{ℕ, suc, List, [], ◌∷◌, map, Option, option_and_then, is_some, if◌then◌else◌}
use Rattle.std.specs.Option.{option_map}
use Rattle.std.specs.Ordering.{nat_cmp}
use Rattle.std.specs.FinMap.{FinMap, empty}
use Rattle.std.specs.FinSet as set
use Rattle.std.specs.String.{string_bytes}
use Rattle.std.specs.declared.string.String.{String}
use Rattle.std.specs.declared.alloc.Global.{Global}
use Rattle.schema.specs.NodeData.{NodeData}
use Rattle.schema.specs.declared.TreeId.{TreeId}
use Rattle.model.specs.declared.FullNodeId.{FullNodeId}
use Rattle.model.specs.FullIds.{full_cmp}
use Rattle.model.specs.World.{Tree}
use Rattle.tree_changes.specs.Changes.{set_at, set_tree}
use Rattle.tree_store.specs.Cells.{Record}
use Rattle.tree_store.specs.declared.records.PresentTree.{PresentTree}
use Rattle.tree_store.specs.declared.records.KnownTree.{KnownTree}
use Rattle.tree_store.specs.Cells.{SlotsView, slot_in, record_in}

-- the data of the records at these ids, whose cells have these numbers; an empty slot shows nothing
abbrev pub nodes_in : List (FullNodeId × ℕ) → (ℕ → Option (Option Record)) → FinMap full_cmp NodeData
nodes_in [] see = empty
nodes_in (e ∷ es) see = set_at (nodes_in es see) e.0 (option_map (λ r. r.node) (record_in (see e.1)))

abbrev pub nodes_shown : SlotsView → FinMap full_cmp NodeData
nodes_shown s = nodes_in s.numbers (slot_in s)

abbrev pub tree_of : PresentTree → Tree
tree_of t = record { root = t.root; focus = t.focus }

-- the tree of a known name, if it exists
abbrev pub tree_in : Option KnownTree → Option Tree
tree_in k = option_map tree_of (option_and_then (λ x. x.tree) k)

-- the present ones of these trees, the first of which has this index
abbrev pub trees_shown : ℕ → List KnownTree → FinMap nat_cmp Tree
trees_shown index [] = empty
trees_shown index (k ∷ ks) = set_tree (trees_shown (suc index) ks) index (option_map tree_of k.tree)

-- those of these ids that there is a slot for, filled or empty
abbrev pub ids_in : List (FullNodeId × ℕ) → (ℕ → Option (Option Record)) → set.FinSet full_cmp
ids_in [] see = set.empty
ids_in (e ∷ es) see = if is_some (see e.1) then set.insert (ids_in es see) e.0 else set.remove (ids_in es see) e.0

abbrev pub slots_shown : SlotsView → set.FinSet full_cmp
slots_shown s = ids_in s.numbers (slot_in s)

abbrev pub texts_shown : Option (String Global) × Option (String Global) → Option (List ℕ) × Option (List ℕ)
texts_shown texts = (option_map string_bytes texts.0, option_map string_bytes texts.1)

abbrev pub names_shown : List KnownTree → List TreeId
names_shown ks = map (λ k. k.name) ks
