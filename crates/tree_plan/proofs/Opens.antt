-- What is known of the tree that an update names.
use Rattle.std.proofs.Common.{◌≡◌, ◌≢◌, ℕ, ◌<◌, ◌-◌, ◌^◌, length, Option, Some, None, IsSome, true, false, option_map, option_and_then, unwrap_or, refl, sym, ap, ◌∙◌, subst, arith, List, [], ◌∷◌, slice_get}
use Rattle.std.specs.Option.{option_map_or}
use Rattle.std.specs.FinMap.{get}
use Rattle.schema.specs.declared.NodeId.{NodeId}
use Rattle.schema.specs.declared.TreeId.{TreeId}
use Rattle.model.specs.declared.FullNodeId.{FullNodeId}
use Rattle.model.specs.World.{ROOT_NAME, World, Tree, IsNode, in_tree, index_of, root_of, graft_name}
use Rattle.model.specs.Update.{UpdateData, InfoData, IsFirst, index_for, root_after, merged_world}
use Rattle.model.specs.Surgery.{IsOld}
use Rattle.model.proofs.Update.Merges.{tree_named as merged_tree}
use Rattle.model.proofs.Worlds.Names.{index_of-known, known-index_of}
use Rattle.model.proofs.State.StatePlaces.{graft_is_node, IsSome_is}
use Rattle.tree_changes.specs.declared.look_ups.TreeRecord.{TreeRecord}
use Rattle.tree_changes.specs.LookUps.{tree_named}
use Rattle.tree_plan.specs.Passes.{IsOfName, HoldsOpened}

abbrev pub blank : TreeId → TreeRecord
blank name = record { id = name; index = None; graft = None; root = None; focus = None }

none_there : {A : Type 0} (o : Option A) → ¬ (IsSome o) → o ≡ None
none_there None out = refl
none_there (Some x) out = absurd (out refl)

-- where no name is counted none is known
pub none_known : (known : List TreeId) → length known ≡ 0 → known ≡ []
none_known [] e = refl
none_known (x ∷ xs) e = absurd (omega (arith, e))

module _ (w : World) (o : IsOld w) where
  -- where no name is known nothing is there
  no_node : IsFirst w → (id : FullNodeId) → ¬ (IsNode w id)
  no_node first id there = let lt : id.tree < length w.known = o.present_known id.tree (o.node_present id there) in let e : length w.known ≡ 0 = ap length first in omega arith

  no_name : IsFirst w → (name : TreeId) → index_of w name ≡ None
  no_name first name = rw first refl

  pub first_blank : IsFirst w → (name : TreeId) → IsOfName w name (blank name)
  first_blank first name = record {
    id = refl;
    index = sym (no_name first name);
    graft = λ g. ((λ e. cc), λ grafts. absurd (no_node first g (graft_is_node w g name grafts)));
    root = rw (no_name first name) refl;
    focus = rw (no_name first name) refl;
  }

  -- in a later update the root tree has the first index, and no other
  pub root_first : ¬ (IsFirst w) → index_of w ROOT_NAME ≡ Some 0
  root_first later = go w.known refl
    where
      go : (xs : List TreeId) → w.known ≡ xs → index_of w ROOT_NAME ≡ Some 0
      go [] e = absurd (later e)
      go (x ∷ xs) e =
          let at : slice_get w.known 0 ≡ Some x = ap (λ k. slice_get k 0) e in
          index_of-known w ROOT_NAME 0 o.known_once (subst (λ n. slice_get w.known 0 ≡ Some n) (o.known_first x at) at)

  pub first_root_name : (name : TreeId) → index_of w name ≡ Some 0 → name ≡ ROOT_NAME
  first_root_name name first = o.known_first name (known-index_of w name 0 first)

  -- a tree that no node grafts and that hasn't the first index is not the root tree
  pub ungrafted : ¬ (IsFirst w) → (name : TreeId) (t : TreeRecord) → IsOfName w name t → t.graft ≡ None → ¬ (t.index ≡ Some 0)
      → (name ≢ ROOT_NAME) × ((id : FullNodeId) → ¬ (graft_name w id ≡ Some name))
  ungrafted later name t h none other = (
    λ root. other (h.index ∙ ap (index_of w) root ∙ root_first later),
    λ id grafts. let some : t.graft ≡ Some id = (h.graft id).1 grafts in cc,
  )

  -- no tree has the next index
  next_free : get w.trees (length w.known) ≡ None
  next_free = none_there (get w.trees (length w.known)) (λ there. let lt : length w.known < length w.known = o.present_known (length w.known) there in omega arith)

  pub tree_is : (name : TreeId) → get w.trees (index_for w name) ≡ tree_named w name
  tree_is name = go (index_of w name)
    where
      go : (x : Option ℕ) → get w.trees (unwrap_or x (length w.known)) ≡ option_and_then (λ i. get w.trees i) x
      go None = next_free
      go (Some i) = refl

  module _ (u : UpdateData) where
    -- the root that was found
    root_found : (root : NodeId) → root_after w u ≡ Some root → root_of (merged_world w u) (index_for w u.name) ≡ Some (in_tree (index_for w u.name) root)
    root_found root is = ap (option_map (λ (t : Tree). in_tree (index_for w u.name) t.root)) (merged_tree w u root is)

    pub first_opening : IsFirst w → (t : TreeRecord) → IsOfName w u.name t → (info : InfoData) → u.info ≡ Some info
        → (root : NodeId) → info.root ≡ root → u.name ≡ ROOT_NAME → HoldsOpened w u (record { «record» = t; index = 0; root = root; is_first = true })
    first_opening first t h info has root is name =
        let at : 0 ≡ index_for w u.name = rw (no_name first u.name) (rw first refl) in
        record {
          opened = record {
            first_has_info = λ _. IsSome_is info has;
            first_for_root = λ _. name;
            later_grafted = λ later. absurd (later first);
            later_has_info = λ later. absurd (later first);
            later_has_index = λ later. absurd (later first);
          };
          record_of = h;
          index = at;
          root = subst (λ i. root_of (merged_world w u) i ≡ Some (in_tree i root)) (sym at) (root_found root (rw has (ap Some is)));
          first = ((λ _. first), λ _. refl);
        }

    has_info : (info : Option InfoData) (r : Option NodeId) (root : NodeId) → r ≡ None → option_map_or (λ i. Some i.root) info r ≡ Some root → IsSome info
    has_info (Some info) r root none is = refl
    has_info None r root none is = cc

    pub later_opening : ¬ (IsFirst w) → (t : TreeRecord) → IsOfName w u.name t → (u.name ≢ ROOT_NAME → IsSome t.graft)
        → (index : ℕ) → index ≡ unwrap_or t.index (length w.known) → (t.index ≡ None → length w.known < 2 ^ 32 - 1)
        → (root : NodeId) → option_map_or (λ i. Some i.root) u.info t.root ≡ Some root
        → HoldsOpened w u (record { «record» = t; index = index; root = root; is_first = false })
    later_opening later t h grafted index at room root is =
        let here : index ≡ index_for w u.name = at ∙ ap (λ x. unwrap_or x (length w.known)) h.index in
        let was : t.root ≡ option_map (λ (k : Tree). k.root) (get w.trees (index_for w u.name)) = h.root ∙ ap (option_map (λ (k : Tree). k.root)) (sym (tree_is u.name)) in
        record {
          opened = record {
            first_has_info = λ first. absurd (later first);
            first_for_root = λ first. absurd (later first);
            later_grafted = λ _ other. graft t.graft (grafted other) refl;
            later_has_info = λ _ none. has_info u.info t.root root (was ∙ ap (option_map (λ (k : Tree). k.root)) none) is;
            later_has_index = λ _ none. room (h.index ∙ none);
          };
          record_of = h;
          index = here;
          root = subst (λ i. root_of (merged_world w u) i ≡ Some (in_tree i root)) (sym here) (root_found root (ap (option_map_or (λ i. Some i.root) u.info) (sym was) ∙ is));
          first = ((λ e. cc), λ first. absurd (later first));
        }
      where
        graft : (g : Option FullNodeId) → IsSome g → t.graft ≡ g → (id : FullNodeId) × (graft_name w id ≡ Some u.name)
        graft (Some g) there e = (g, (h.graft g).0 e)
        graft None there e = cc
