-- Trees that get another graft, one after another.
use Rattle.std.specs.Prelude.{ℕ, ◌≡◌, ◌≢◌, List, map, Contains, Some, None, IsSome, ◌⊎◌, ◌↔◌}
use Rattle.std.specs.Option.{option_map}
use Rattle.std.specs.BTreeMap.{BTreeMap, Updates}
use Rattle.schema.specs.declared.NodeId.{NodeId}
use Rattle.schema.specs.declared.TreeId.{TreeId}
use Rattle.model.specs.declared.FullNodeId.{FullNodeId}
use Rattle.model.specs.FullIds.{full_cmp}
use Rattle.model.specs.World.{World, in_tree, index_of, root_named, graft_name}
use Rattle.model.specs.Update.{UpdateData}
use Rattle.tree_changes.specs.declared.look_ups.TreeRecord.{TreeRecord}
use Rattle.tree_changes.specs.LookUps.{tree_named}
use Rattle.tree_plan.specs.declared.passes.Compared.{Compared}
use Rattle.tree_plan.specs.declared.passes.Removed.{Removed}
use Rattle.tree_plan.specs.declared.regrafting.Regrafted.{Regrafted}
use Rattle.tree_plan.specs.Passes.{at, at_name, has, GainsGraft}

-- a node grafted the tree of this name, and is neither removed nor in the update
abbrev pub HasRival : World → Compared → Removed → TreeId → Type 0
HasRival w c r name = (g : FullNodeId) × (graft_name w g ≡ Some name) × ¬ (has r.gone g) × (at c.named g ≡ None)

-- what grafted the tree of this name is removed, or in the update
abbrev pub HasNoRival : World → Compared → Removed → TreeId → Type 0
HasNoRival w c r name = (g : FullNodeId) → graft_name w g ≡ Some name → has r.gone g ⊎ IsSome (at c.named g)

-- the record afterwards of a tree that a named node grafts
abbrev pub grafted_record : World → Compared → TreeId → TreeRecord
grafted_record w c name = record {
  id = name;
  index = index_of w name;
  graft = at_name c.grafted name;
  root = option_map (λ t. t.root) (tree_named w name);
  focus = option_map (λ t. t.focus) (tree_named w name);
}

-- the root of the tree of this name, if it is present, is moved in below the named node that grafts the tree
abbrev pub MovesIn : World → Compared → TreeId → BTreeMap FullNodeId FullNodeId → BTreeMap FullNodeId FullNodeId → Type 0
MovesIn w c name before after =
    (id g : FullNodeId) → (at after.entries id ≡ Some g)
    ↔ (((root_named w name ≡ Some id) × (at_name c.grafted name ≡ Some g))
    ⊎ ((root_named w name ≢ Some id) × (at before.entries id ≡ Some g)))

-- the record's root, if there is one, gets the record's graft
abbrev pub PutsRoot : TreeRecord → BTreeMap FullNodeId FullNodeId → BTreeMap FullNodeId FullNodeId → Type 0
PutsRoot t before after =
    (index : ℕ) (node : NodeId) (g : FullNodeId) → t.index ≡ Some index → t.root ≡ Some node → t.graft ≡ Some g
    → Updates full_cmp before after (in_tree index node) (Some g)

-- what is found for these names, each of which a named node gains
pub record AreRegrafted (w : World) (u : UpdateData) (c : Compared) (r : Removed) (names : List TreeId) (found : Regrafted) : Type 0 where
  pub free : (name : TreeId) → Contains names name → HasNoRival w c r name
  pub trees : found.trees.items ≡ map (grafted_record w c) names
  pub moved_in : (id g : FullNodeId)
      → (at found.moved_in.entries id ≡ Some g)
      ↔ ((name : TreeId) × Contains names name × GainsGraft w u g name × (root_named w name ≡ Some id))
