-- What is read of a store's fields is read of the world that it shows.
use Rattle.std.proofs.Common.{◌≡◌, ℕ, List, Bool, Option, Some, None, refl, sym, ap, subst, ◌∙◌, inl, inr}
use Rattle.std.specs.Prelude.{IsSome, ◌↔◌, slice_get, option_and_then}
use Rattle.std.specs.Option.{option_map}
use Rattle.std.specs.FinMap.{get, get-empty}
use Rattle.std.proofs.lemmas.Option.{none-some}
use Rattle.model.specs.FullIds.{full_cmp}
use Rattle.model.specs.State.{empty_world}
use Rattle.model.proofs.State.HostFocus.{host_leaves_state, chain_before}
use Rattle.schema.specs.declared.TreeId.{TreeId}
use Rattle.model.specs.declared.FullNodeId.{FullNodeId}
use Rattle.model.specs.World.{World, index_of, graft_name}
use Rattle.tree_changes.specs.declared.look_ups.TreeRecord.{TreeRecord}
use Rattle.tree_changes.specs.LookUps.{IsTreeRecord, tree_named}
use Rattle.tree_store.specs.declared.records.PresentTree.{PresentTree}
use Rattle.tree_store.specs.declared.records.KnownTree.{KnownTree}
use Rattle.tree_store.specs.declared.records.NameRecord.{NameRecord}
use Rattle.tree_store.specs.declared.store.Store.TheInside.{Inside}
use Rattle.tree_store.specs.Stored.{tree_of, trees_shown}
use Rattle.tree_store.specs.NameRecords.{record_of}
use Rattle.tree_store.specs.Shown.{world_shown, NamesAreTrue, IsStored}
use Rattle.tree_store.specs.KeptNames.{name_at}
use Rattle.tree_store.proofs.Maps.{get-trees}

some_is_none : {A : Type 0} (o : Option A) → IsSome o → o ≡ None → ⊥
some_is_none None h e = cc
some_is_none (Some x) h e = cc

root_same : (t : Option PresentTree) → option_map (λ x. x.root) t ≡ option_map (λ x. x.root) (option_map tree_of t)
root_same None = refl
root_same (Some t) = refl

focus_same : (t : Option PresentTree) → option_map (λ x. x.focus) t ≡ option_map (λ x. x.focus) (option_map tree_of t)
focus_same None = refl
focus_same (Some t) = refl

-- a record's parts: where there is no record the index, the graft and the tree are none
module _ (w : World) (name : TreeId) (index : Option ℕ) (graft : Option FullNodeId) (tree : Option PresentTree)
    (is_index : index ≡ index_of w name) (is_graft : (g : FullNodeId) → (graft ≡ Some g) ↔ (graft_name w g ≡ Some name)) (is_tree : option_map tree_of tree ≡ tree_named w name) (absent : index ≡ None → tree ≡ None) where
  made : (i : Option ℕ) (g : Option FullNodeId) → index ≡ i → graft ≡ g → IsTreeRecord w name (record_of name i g tree)
  made (Some i) g ei eg = record {
    id = λ t e. let r : TreeRecord = record { id = name; index = Some i; graft = g; root = option_map (λ t. t.root) tree; focus = option_map (λ t. t.focus) tree } in let j : r ≡ t = cc in sym (ap (λ (x : TreeRecord). x.id) j);
    there = λ t e. let r : TreeRecord = record { id = name; index = Some i; graft = g; root = option_map (λ t. t.root) tree; focus = option_map (λ t. t.focus) tree } in let j : r ≡ t = cc in inl (subst (λ (x : TreeRecord). IsSome x.index) j refl);
    index = sym ei ∙ is_index;
    graft = λ h. ((λ e. (is_graft h).0 (eg ∙ e)), (λ e. sym eg ∙ (is_graft h).1 e));
    root = root_same tree ∙ ap (option_map (λ x. x.root)) is_tree;
    focus = focus_same tree ∙ ap (option_map (λ x. x.focus)) is_tree;
  }
  made None (Some g) ei eg = record {
    id = λ t e. let r : TreeRecord = record { id = name; index = None; graft = Some g; root = option_map (λ t. t.root) tree; focus = option_map (λ t. t.focus) tree } in let j : r ≡ t = cc in sym (ap (λ (x : TreeRecord). x.id) j);
    there = λ t e. let r : TreeRecord = record { id = name; index = None; graft = Some g; root = option_map (λ t. t.root) tree; focus = option_map (λ t. t.focus) tree } in let j : r ≡ t = cc in inr (subst (λ (x : TreeRecord). IsSome x.graft) j refl);
    index = sym ei ∙ is_index;
    graft = λ h. ((λ e. (is_graft h).0 (eg ∙ e)), (λ e. sym eg ∙ (is_graft h).1 e));
    root = root_same tree ∙ ap (option_map (λ x. x.root)) is_tree;
    focus = focus_same tree ∙ ap (option_map (λ x. x.focus)) is_tree;
  }
  made None None ei eg = record {
    id = λ t e. cc;
    there = λ t e. cc;
    index = sym ei ∙ is_index;
    graft = λ h. ((λ e. (is_graft h).0 (eg ∙ e)), (λ e. sym eg ∙ (is_graft h).1 e));
    root = ap (option_map (λ x. x.root)) (sym (ap (option_map tree_of) (absent ei)) ∙ is_tree);
    focus = ap (option_map (λ x. x.focus)) (sym (ap (option_map tree_of) (absent ei)) ∙ is_tree);
  }

  pub record_made : IsTreeRecord w name (record_of name index graft tree)
  record_made = made index graft refl refl

pub empty_record : (host : Bool) (name : TreeId) → IsTreeRecord (empty_world host) name None
empty_record host name = record {
  id = λ t e. cc;
  there = λ t e. cc;
  index = refl;
  graft = λ g. ((λ e. cc), (λ e. absurd (none-some name (sym (ap (λ o. option_and_then (λ d. d.tree_id) o) (get-empty full_cmp g)) ∙ e))));
  root = refl;
  focus = refl;
}

-- told whether the host is focused, a store keeps what it kept
pub told_stored : (a b : Inside) (host : Bool) → IsStored a (world_shown a) → b ≡ record a { host_focused = host } → IsStored b (world_shown b)
told_stored a b host s e = subst (λ x. IsStored x (world_shown x)) (sym e) (record {
  state = host_leaves_state (world_shown a) host s.state;
  seated = record { own = s.seated.own; nodes = s.seated.nodes; place = s.seated.place };
  names = record { index = s.names.index; graft = s.names.graft };
  focus = (chain_before {w = record (world_shown a) { host_focused = host }} (world_shown a).host_focused a.focus s.focus.0, s.focus.1, s.focus.2, s.focus.3);
})

tree_by : (ks : List KnownTree) (index : Option ℕ) → option_map tree_of (option_and_then (λ i. option_and_then (λ k. k.tree) (slice_get ks i)) index) ≡ option_and_then (λ i. get (trees_shown 0 ks) i) index
tree_by ks None = refl
tree_by ks (Some i) = sym (get-trees ks i)

-- the record that is put together of what a store keeps of a name
pub stored_record : (a : Inside) (name : TreeId) (found : Option NameRecord) (index : Option ℕ) (graft : Option FullNodeId) (tree : Option PresentTree) → NamesAreTrue a.tables.names (world_shown a)
    → found ≡ name_at a.tables.names name → index ≡ option_and_then (λ r. r.index) found → graft ≡ option_and_then (λ r. r.graft) found
    → tree ≡ option_and_then (λ i. option_and_then (λ k. k.tree) (slice_get a.tables.known.items i)) index
    → IsTreeRecord (world_shown a) name (record_of name index graft tree)
stored_record a name found index graft tree s is_found is_index is_graft is_tree =
    let at : index ≡ index_of (world_shown a) name = is_index ∙ ap (option_and_then (λ r. r.index)) is_found ∙ s.index name in
    let grafted : graft ≡ option_and_then (λ r. r.graft) (name_at a.tables.names name) = is_graft ∙ ap (option_and_then (λ r. r.graft)) is_found in
    record_made (world_shown a) name index graft tree at
    (λ g. ((λ e. (s.graft name g).0 (sym grafted ∙ e)), (λ e. grafted ∙ (s.graft name g).1 e)))
    (ap (option_map tree_of) is_tree ∙ tree_by a.tables.known.items index ∙ ap (option_and_then (λ i. get (trees_shown 0 a.tables.known.items) i)) at)
    (λ e. is_tree ∙ ap (option_and_then (λ i. option_and_then (λ k. k.tree) (slice_get a.tables.known.items i))) e)
