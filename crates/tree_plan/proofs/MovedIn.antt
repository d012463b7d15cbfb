-- The roots that are moved in below another graft.
use Rattle.std.proofs.Common.{◌≡◌, ◌≢◌, ◌⊎◌, ℕ, cond, Option, Some, None, refl, sym, ap, subst, ◌∙◌, inl, inr, ⊎_elim}
use Rattle.std.specs.BTreeMap.{BTreeMap, is_at}
use Rattle.std.proofs.lemmas.Option.{same_Some}
use Rattle.schema.specs.declared.NodeId.{NodeId}
use Rattle.schema.specs.declared.TreeId.{TreeId}
use Rattle.model.specs.declared.FullNodeId.{FullNodeId}
use Rattle.model.specs.FullIds.{full_cmp}
use Rattle.model.proofs.Worlds.Names.{cases_id}
use Rattle.model.specs.World.{World, in_tree, root_named}
use Rattle.tree_changes.specs.declared.look_ups.TreeRecord.{TreeRecord}
use Rattle.tree_plan.specs.declared.passes.Compared.{Compared}
use Rattle.tree_plan.specs.Passes.{IsOfName, at, at_name}
use Rattle.tree_plan.specs.Regrafts.{MovesIn}
use Rattle.tree_plan.proofs.OfNames.{full, root_by_name}
use Rattle.tree_plan.proofs.IdMaps.{Put, put_here, put_apart}

abbrev Map : Type 0
Map = BTreeMap FullNodeId FullNodeId

module _ (w : World) (c : Compared) (name : TreeId) (n : FullNodeId) (before after : Map) (grafted : at_name c.grafted name ≡ Some n) where
  -- the tree isn't present
  stays : root_named w name ≡ None → after ≡ before → MovesIn w c name before after
  stays none same id g = (
    (λ is. inr ((λ root. let no : None ≡ Some id = sym none ∙ root in cc), subst (λ m. at m.entries id ≡ Some g) same is)),
    (λ h. ⊎_elim (λ x. let no : None ≡ Some id = sym none ∙ x.0 in cc) (λ x. subst (λ m. at m.entries id ≡ Some g) (sym same) x.1) h),
  )

  moves : (root : FullNodeId) → root_named w name ≡ Some root → Put root (Some n) (at before.entries) (at after.entries) → MovesIn w c name before after
  moves root is put id g = (to, from)
    where
      here : root ≡ id → at after.entries id ≡ Some n
      here same = subst (λ q. at after.entries q ≡ Some n) same (put_here root (Some n) (at before.entries) (at after.entries) put)

      apart : root ≢ id → at after.entries id ≡ at before.entries id
      apart other = put_apart root (Some n) (at before.entries) (at after.entries) put id other

      to : at after.entries id ≡ Some g → ((root_named w name ≡ Some id) × (at_name c.grafted name ≡ Some g)) ⊎ ((root_named w name ≢ Some id) × (at before.entries id ≡ Some g))
      to found = ⊎_elim
          (λ same. inl (is ∙ ap Some same, grafted ∙ sym (here same) ∙ found))
          (λ other. inr ((λ e. other (same_Some root id (sym is ∙ e))), sym (apart other) ∙ found))
          (cases_id root id)

      from : ((root_named w name ≡ Some id) × (at_name c.grafted name ≡ Some g)) ⊎ ((root_named w name ≢ Some id) × (at before.entries id ≡ Some g)) → at after.entries id ≡ Some g
      from (inl h) = here (same_Some root id (sym is ∙ h.0)) ∙ sym grafted ∙ h.1
      from (inr h) = apart (λ same. h.0 (is ∙ ap Some same)) ∙ h.1

  pub moves_in : (t : TreeRecord) → IsOfName w name t → (t.index ≡ None → after ≡ before) → (t.root ≡ None → after ≡ before)
      → ((index : ℕ) (node : NodeId) (g q : FullNodeId) → t.index ≡ Some index → t.root ≡ Some node → at_name c.grafted name ≡ Some g → at after.entries q ≡ cond (is_at (full_cmp (in_tree index node)) q) (Some g) (at before.entries q))
      → MovesIn w c name before after
  moves_in t h absent rootless present = go t.index t.root refl refl
    where
      go : (i : Option ℕ) (root : Option NodeId) → t.index ≡ i → t.root ≡ root → MovesIn w c name before after
      go None root e f = stays (root_by_name w name t h ∙ ap (λ i. full i t.root) e) (absent e)
      go (Some i) None e f = stays (root_by_name w name t h ∙ ap (λ o. full o t.root) e ∙ ap (full (Some i)) f) (rootless f)
      go (Some i) (Some top) e f = moves (in_tree i top) (root_by_name w name t h ∙ ap (λ o. full o t.root) e ∙ ap (full (Some i)) f) (λ q. present i top n q e f grafted)
