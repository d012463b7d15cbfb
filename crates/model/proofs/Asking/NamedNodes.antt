-- The node that a query names.
use Rattle.std.proofs.Common.{◌≡◌, true, ℕ, Option, Some, None, refl, ap, ◌∙◌, subst}
use Rattle.std.specs.Prelude.{is_some, ◌↔◌, option_and_then, option_map}
use Rattle.std.specs.Bool.{then_some}
use Rattle.std.proofs.lemmas.Option.{none-some, same_Some}
use Rattle.schema.specs.NodeData.{NodeData}
use Rattle.schema.specs.declared.NodeId.{NodeId}
use Rattle.schema.specs.declared.TreeId.{TreeId}
use Rattle.model.specs.declared.FullNodeId.{FullNodeId}
use Rattle.model.specs.World.{World, data_of, in_tree, index_of, name_of, local_id_of}
use Rattle.model.specs.State.{IsState}
use Rattle.model.specs.Queries.{node_named}
use Rattle.model.proofs.Worlds.Names.{known-index_of, index_of-known}

module _ (w : World) (n : NodeId) (tree : TreeId) where
  -- by the index of the tree, and by whether the node is there
  abbrev by_index : Option ℕ → Option FullNodeId
  by_index o = option_and_then (λ index. then_some (is_some (data_of w (in_tree index n))) (in_tree index n)) o

  located : (index : ℕ) (o : Option NodeData) → data_of w (in_tree index n) ≡ o → name_of w index ≡ Some tree → (id : FullNodeId) → then_some (is_some o) (in_tree index n) ≡ Some id → local_id_of w id ≡ Some (n, tree)
  located index None has known id e = absurd (none-some id e)
  located index (Some d) has known id e =
      let same : in_tree index n ≡ id = same_Some (in_tree index n) id e in
      subst (λ x. local_id_of w x ≡ Some (n, tree)) same (ap (option_and_then (λ _. option_map (λ name. (n, name)) (name_of w index))) has ∙ ap (option_map (λ name. (n, name))) known)

  pub named_located : (id : FullNodeId) → node_named w (n, tree) ≡ Some id → local_id_of w id ≡ Some (n, tree)
  named_located id e = go (index_of w tree) refl e
    where
      go : (o : Option ℕ) → index_of w tree ≡ o → by_index o ≡ Some id → local_id_of w id ≡ Some (n, tree)
      go None is e = absurd (none-some id e)
      go (Some index) is e = located index (data_of w (in_tree index n)) refl (known-index_of w tree index is) id e

pub located_named : (w : World) → IsState w → (name : NodeId × TreeId) (id : FullNodeId) → local_id_of w id ≡ Some name → node_named w name ≡ Some id
located_named w s name id e = go (data_of w id) refl (name_of w id.tree) refl e
  where
    go : (o : Option NodeData) → data_of w id ≡ o → (k : Option TreeId) → name_of w id.tree ≡ k → option_and_then (λ _. option_map (λ x. (id.node, x)) k) o ≡ Some name → node_named w name ≡ Some id
    go None has k known e = absurd (none-some name e)
    go (Some d) has None known e = absurd (none-some name e)
    go (Some d) has (Some k) known e =
        let same : (id.node, k) ≡ name = same_Some (id.node, k) name e in
        let there : is_some (data_of w (in_tree id.tree id.node)) ≡ true = ap is_some has in
        subst (λ m. node_named w m ≡ Some id) same (ap (by_index w id.node k) (index_of-known w k id.tree s.known_once known) ∙ ap (λ b. then_some b (in_tree id.tree id.node)) there)

pub named_node_is_located : (w : World) (name : NodeId × TreeId) (id : FullNodeId) → IsState w → (node_named w name ≡ Some id) ↔ (local_id_of w id ≡ Some name)
named_node_is_located w name id s = (named_located w name.0 name.1 id, located_named w s name id)
