-- The data of the entries of an update.
use Rattle.std.proofs.Common.{Contains, cond, ◌≡◌, ℕ, zero, suc, List, [], ◌∷◌, map, slice_get, Some, option_map, refl, sym, ap, ◌∙◌, subst, arith}
use Rattle.std.specs.Ordering.{is_eq}
use Rattle.std.specs.FinMap.{FinMap, get, insert, get-insert}
use Rattle.std.proofs.lemmas.Cmp.{tied_itself}
use Rattle.std.proofs.lemmas.Option.{same_Some, slice_get-get_or, slice_get-map}
use Rattle.schema.specs.NodeData.{NodeData}
use Rattle.schema.specs.declared.NodeId.{NodeId}
use Rattle.model.specs.declared.FullNodeId.{FullNodeId}
use Rattle.model.specs.FullIds.{full_cmp, full_total}
use Rattle.model.specs.World.{World, data_of, in_tree}
use Rattle.model.specs.Update.{UpdateData, index_for, overwritten_nodes, merged_world, named_at}
use Rattle.model.proofs.Worlds.Names.{same_id}
use Rattle.model.proofs.State.StatePlaces.{map_some}
use Rattle.model.proofs.Surgery.Spots.{overwritten_unnamed}
use Rattle.tree_changes.specs.Changes.{entry_data}

-- each id is named by one entry
abbrev pub AreNamedOnce : List (NodeId × NodeData) → Type 0
AreNamedOnce es = (i j : ℕ) (n : NodeId) → slice_get (map (λ e. e.0) es) i ≡ Some n → slice_get (map (λ e. e.0) es) j ≡ Some n → i ≡ j

insert_here : (nodes : FinMap full_cmp NodeData) (k : FullNodeId) (d : NodeData) → get (insert nodes k d) k ≡ Some d
insert_here nodes k d = get-insert full_total nodes k d k ∙ ap (λ b. cond b (Some d) (get nodes k)) (ap is_eq (tied_itself full_total k))

not_later : (x : NodeId × NodeData) (xs : List (NodeId × NodeData)) → AreNamedOnce (x ∷ xs) → Contains (map (λ e. e.0) xs) x.0 → ⊥
not_later x xs once c =
    let at : slice_get (map (λ e. e.0) xs) c.0 ≡ Some x.0 = slice_get-get_or (map (λ e. e.0) xs) c.0 x.0 c.1 ∙ ap Some c.2 in
    let same : 0 ≡ suc c.0 = once 0 (suc c.0) x.0 refl at in
    omega arith

overwritten_entry : (nodes : FinMap full_cmp NodeData) (index : ℕ) (es : List (NodeId × NodeData)) (k : ℕ) (e : NodeId × NodeData) → AreNamedOnce es → slice_get es k ≡ Some e → get (overwritten_nodes nodes index es) (in_tree index e.0) ≡ Some e.1
overwritten_entry nodes index [] k e once at = cc
overwritten_entry nodes index (x ∷ xs) zero e once at =
    let same : x ≡ e = same_Some x e at in
    subst (λ y. get (overwritten_nodes (insert nodes (in_tree index x.0) x.1) index xs) (in_tree index y.0) ≡ Some y.1) same
    (overwritten_unnamed (insert nodes (in_tree index x.0) x.1) index xs (in_tree index x.0) (λ tree c. not_later x xs once c) ∙ insert_here nodes (in_tree index x.0) x.1)
overwritten_entry nodes index (x ∷ xs) (suc k) e once at =
    overwritten_entry (insert nodes (in_tree index x.0) x.1) index xs k e
    (λ i j n at_i at_j. let same : suc i ≡ suc j = once (suc i) (suc j) n at_i at_j in omega arith) at

-- a named node has the data of the entry that names it
pub entry_named : (w : World) (u : UpdateData) (id : FullNodeId) (k : ℕ) → AreNamedOnce u.nodes → id.tree ≡ index_for w u.name → named_at u k ≡ Some id.node → data_of (merged_world w u) id ≡ entry_data u.nodes k
entry_named w u id k once tree at =
    let e = map_some (λ (e : NodeId × NodeData). e.0) (slice_get u.nodes k) id.node (sym (slice_get-map (λ (e : NodeId × NodeData). e.0) u.nodes k) ∙ at) in
    let here : in_tree (index_for w u.name) e.0.0 ≡ id = same_id (in_tree (index_for w u.name) e.0.0) id (sym tree) e.2 in
    subst (λ x. data_of (merged_world w u) x ≡ entry_data u.nodes k) here
    (overwritten_entry w.nodes (index_for w u.name) u.nodes k e.0 once e.1 ∙ sym (ap (option_map (λ (e : NodeId × NodeData). e.1)) e.1))
