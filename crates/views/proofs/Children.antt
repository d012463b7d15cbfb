-- What the children of a node are, by its data.
use Rattle.std.proofs.Common.{◌≡◌, ◌<◌, ◌≤◌, ◌⊎◌, length, get_or, inl, inr, refl, sym, ◌∙◌, ap}
use Rattle.std.specs.Prelude.{List, [], Option, Some, None, map, option_and_then}
use Rattle.std.specs.Option.{option_map_or}
use Rattle.std.proofs.lemmas.List.{length-map}
use Rattle.std.proofs.lemmas.Option.{none-some, slice_get_cases}
use Rattle.schema.specs.NodeData.{NodeData}
use Rattle.schema.specs.declared.TreeId.{TreeId}
use Rattle.model.specs.declared.FullNodeId.{FullNodeId}
use Rattle.model.specs.World.{World, Place, HasData, children, child_at, in_tree, at_most_one, root_named}

-- what a node of this data has as children
abbrev children_by : World → FullNodeId → NodeData → Option TreeId → List FullNodeId
children_by w id d None = map (in_tree id.tree) d.children
children_by w id d (Some name) = at_most_one (root_named w name)

by_name : (w : World) (id : FullNodeId) (d : NodeData) (o : Option TreeId) → option_map_or (λ name. at_most_one (root_named w name)) o (map (in_tree id.tree) d.children) ≡ children_by w id d o
by_name w id d None = refl
by_name w id d (Some name) = refl

module _ (w : World) (id : FullNodeId) (d : NodeData) (has : HasData w id d) where
  by_data : children w id ≡ children_by w id d d.tree_id
  by_data =
      ap (λ o. option_map_or (λ name. at_most_one (root_named w name)) (option_and_then (λ (e : NodeData). e.tree_id) o) (option_map_or (λ (e : NodeData). map (in_tree id.tree) e.children) o [])) has
      ∙ by_name w id d d.tree_id

  pub of_list : d.tree_id ≡ None → children w id ≡ map (in_tree id.tree) d.children
  of_list e = by_data ∙ ap (children_by w id d) e

  pub of_graft : (name : TreeId) → d.tree_id ≡ Some name → children w id ≡ at_most_one (root_named w name)
  of_graft name e = by_data ∙ ap (children_by w id d) e

  pub list_count : d.tree_id ≡ None → length d.children ≡ length (children w id)
  list_count e = sym (ap length (of_list e) ∙ length-map d.children (in_tree id.tree))

-- past the last child stands none
pub past_last : (w : World) (p : Place) → None ≡ child_at w p → length (children w p.0) ≤ p.1
past_last w p e = go (slice_get_cases (children w p.0) p.1).1
  where
    go : ((x : FullNodeId) × (p.1 < length (children w p.0)) × (child_at w p ≡ Some x) × (get_or (children w p.0) p.1 x ≡ x)) ⊎ ((length (children w p.0) ≤ p.1) × (child_at w p ≡ None)) → length (children w p.0) ≤ p.1
    go (inl there) = absurd (none-some there.0 (e ∙ there.2))
    go (inr past) = past.0
