-- What a merged world says at each id, index and name.
use Rattle.std.proofs.Common.{◌≡◌, ◌≢◌, ℕ, zero, suc, ◌<◌, ◌≤◌, true, false, cond, List, [], ◌∷◌, ◌++◌, length, slice_get, Option, Some, None, IsSome, option_map, unwrap_or, length-append, ◌⊎◌, inl, inr, ⊎_elim, refl, sym, ap, ◌∙◌, subst, arith}
use Rattle.std.specs.Option.{option_map_or}
use Rattle.std.specs.Ordering.{nat_cmp, is_eq, eq_by_cmp}
use Rattle.std.specs.Cmp.{nat_cmp_total}
use Rattle.std.specs.FinMap.{FinMap, get, insert, get-insert, nat_cmp-IsAntisymmetric}
use Rattle.std.specs.declared.cmp.Ordering.{Ordering}
use Rattle.std.specs.declared.cmp.Ordering.TheVariants.{Less, Equal, Greater}
use Rattle.std.proofs.lemmas.Bool.{cases_Bool, cases_eq}
use Rattle.std.proofs.lemmas.Cmp.{tied_itself}
use Rattle.std.proofs.lemmas.Option.{same_Some, slice_get_within}
use Rattle.schema.specs.NodeData.{NodeData}
use Rattle.schema.specs.declared.NodeId.{NodeId}
use Rattle.schema.specs.declared.TreeId.{TreeId}
use Rattle.model.specs.declared.FullNodeId.{FullNodeId}
use Rattle.model.specs.FullIds.{full_cmp, full_total, exact_full}
use Rattle.model.specs.World.{World, Tree, data_of, in_tree, index_of}
use Rattle.model.specs.Update.{UpdateData, InfoData, index_for, overwritten_nodes, root_after, merged_world}
use Rattle.model.proofs.Worlds.Names.{IsKnownOnce, known-index_of, unknown-index_of}
use Rattle.model.proofs.State.StatePlaces.{IsSome_is, value_of}

equal : (o : Ordering) → is_eq o ≡ true → o ≡ Equal
equal Less e = cc
equal Equal e = refl
equal Greater e = cc

pub other_id : (q k : FullNodeId) → q ≢ k → eq_by_cmp full_cmp q k ≡ false
other_id q k other = ⊎_elim (λ e. absurd (other (exact_full q k (equal (full_cmp q k) e)))) (λ e. e) (cases_Bool (eq_by_cmp full_cmp q k))

pub other_index : (i j : ℕ) → i ≢ j → eq_by_cmp nat_cmp i j ≡ false
other_index i j other = ⊎_elim (λ e. absurd (other (nat_cmp-IsAntisymmetric i j (equal (nat_cmp i j) e)))) (λ e. e) (cases_Bool (eq_by_cmp nat_cmp i j))

pub same_index : (i : ℕ) → eq_by_cmp nat_cmp i i ≡ true
same_index i = ap is_eq (tied_itself nat_cmp_total i)

-- the nodes of other trees stay
pub overwritten_elsewhere : (nodes : FinMap full_cmp NodeData) (index : ℕ) (es : List (NodeId × NodeData)) (id : FullNodeId) → id.tree ≢ index → get (overwritten_nodes nodes index es) id ≡ get nodes id
overwritten_elsewhere nodes index [] id other = refl
overwritten_elsewhere nodes index (e ∷ es) id other =
    overwritten_elsewhere (insert nodes (in_tree index e.0) e.1) index es id other
    ∙ get-insert full_total nodes (in_tree index e.0) e.1 id ∙ ap (λ b. cond b (Some e.1) (get nodes id)) (other_id id (in_tree index e.0) (λ same. other (ap (λ x. x.tree) same)))

module _ (old : World) (u : UpdateData) where
  pub data_elsewhere : (id : FullNodeId) → id.tree ≢ index_for old u.name → data_of (merged_world old u) id ≡ data_of old id
  data_elsewhere id other = overwritten_elsewhere old.nodes (index_for old u.name) u.nodes id other

  pub tree_elsewhere : (index : ℕ) → index ≢ index_for old u.name → get (merged_world old u).trees index ≡ get old.trees index
  tree_elsewhere index other = by_root (root_after old u)
    where
      by_root : (o : Option NodeId) → get (option_map_or (λ root. insert old.trees (index_for old u.name) (record { root = root; focus = u.focus })) o old.trees) index ≡ get old.trees index
      by_root None = refl
      by_root (Some root) = get-insert nat_cmp_total old.trees (index_for old u.name) (record { root = root; focus = u.focus }) index ∙ ap (λ b. cond b (Some (record { root = root; focus = u.focus })) (get old.trees index)) (other_index index (index_for old u.name) other)

  -- the named tree
  pub tree_named : (root : NodeId) → root_after old u ≡ Some root → get (merged_world old u).trees (index_for old u.name) ≡ Some (record { root = root; focus = u.focus })
  tree_named root is =
      ap (λ o. get (option_map_or (λ root. insert old.trees (index_for old u.name) (record { root = root; focus = u.focus })) o old.trees) (index_for old u.name)) is
      ∙ get-insert nat_cmp_total old.trees (index_for old u.name) (record { root = root; focus = u.focus }) (index_for old u.name)
      ∙ ap (λ b. cond b (Some (record { root = root; focus = u.focus })) (get old.trees (index_for old u.name))) (same_index (index_for old u.name))

  -- a tree that is there has a root afterwards, and so has one that comes with tree info
  pub root_stays : IsSome (get old.trees (index_for old u.name)) → IsSome (root_after old u)
  root_stays there = go u.info (get old.trees (index_for old u.name)) there
    where
      go : (info : Option InfoData) (o : Option Tree) → IsSome o → IsSome (option_map_or (λ i. Some i.root) info (option_map (λ t. t.root) o))
      go (Some info) o there = refl
      go None (Some t) there = refl
      go None None there = there

  pub root_comes : IsSome u.info → IsSome (root_after old u)
  root_comes there = go u.info there
    where
      go : (info : Option InfoData) → IsSome info → IsSome (option_map_or (λ i. Some i.root) info (option_map (λ t. t.root) (get old.trees (index_for old u.name))))
      go (Some info) there = refl
      go None there = cc

  pub named_present : IsSome (root_after old u) → IsSome (get (merged_world old u).trees (index_for old u.name))
  named_present there = let f = value_of (root_after old u) there in IsSome_is (record { root = f.0; focus = u.focus }) (tree_named f.0 f.1)

  pub tree_stays : (index : ℕ) → IsSome (get old.trees index) → IsSome (get (merged_world old u).trees index)
  tree_stays index there = go (cases_eq index (index_for old u.name))
    where
      go : (index ≡ index_for old u.name) ⊎ (index ≡ index_for old u.name → ⊥) → IsSome (get (merged_world old u).trees index)
      go (inl same) = subst (λ k. IsSome (get (merged_world old u).trees k)) (sym same) (named_present (root_stays (subst (λ k. IsSome (get old.trees k)) same there)))
      go (inr other) = subst IsSome (sym (tree_elsewhere index other)) there

  -- a tree of the merged world was there, or is the named one
  pub tree_before : (index : ℕ) → IsSome (get (merged_world old u).trees index) → (IsSome (get old.trees index) × (index ≢ index_for old u.name)) ⊎ (index ≡ index_for old u.name)
  tree_before index there = go (cases_eq index (index_for old u.name))
    where
      go : (index ≡ index_for old u.name) ⊎ (index ≡ index_for old u.name → ⊥) → (IsSome (get old.trees index) × (index ≢ index_for old u.name)) ⊎ (index ≡ index_for old u.name)
      go (inl same) = inr same
      go (inr other) = inl (subst IsSome (tree_elsewhere index other) there, other)

  -- the known names stay, or the name that is new comes behind them
  pub known_stays : (index : ℕ) → index_of old u.name ≡ Some index → (merged_world old u).known ≡ old.known
  known_stays index is = rw is

  pub known_grows : index_of old u.name ≡ None → (merged_world old u).known ≡ old.known ++ u.name ∷ []
  known_grows is = rw is

pub slice_get_front : {A : Type 0} (xs ys : List A) (i : ℕ) (x : A) → slice_get xs i ≡ Some x → slice_get (xs ++ ys) i ≡ Some x
slice_get_front [] ys i x e = cc
slice_get_front (y ∷ xs) ys zero x e = e
slice_get_front (y ∷ xs) ys (suc i) x e = slice_get_front xs ys i x e

pub slice_get_push : {A : Type 0} (xs : List A) (y : A) (i : ℕ) (x : A) → slice_get (xs ++ y ∷ []) i ≡ Some x → (slice_get xs i ≡ Some x) ⊎ ((i ≡ length xs) × (y ≡ x))
slice_get_push [] y zero x e = inr (refl, same_Some y x e)
slice_get_push [] y (suc i) x e = cc
slice_get_push (z ∷ xs) y zero x e = inl e
slice_get_push (z ∷ xs) y (suc i) x e = ⊎_elim inl (λ h. inr (ap suc h.0, h.1)) (slice_get_push xs y i x e)

once_pushed : (known : List TreeId) (name : TreeId) → ((i : ℕ) → slice_get known i ≡ Some name → ⊥) → IsKnownOnce known → IsKnownOnce (known ++ name ∷ [])
once_pushed known name new once i j k at_i at_j = go (slice_get_push known name i k at_i) (slice_get_push known name j k at_j)
  where
    go : (slice_get known i ≡ Some k) ⊎ ((i ≡ length known) × (name ≡ k)) → (slice_get known j ≡ Some k) ⊎ ((j ≡ length known) × (name ≡ k)) → i ≡ j
    go (inl a) (inl b) = once i j k a b
    go (inl a) (inr b) = absurd (new i (a ∙ ap Some (sym b.1)))
    go (inr a) (inl b) = absurd (new j (b ∙ ap Some (sym a.1)))
    go (inr a) (inr b) = a.0 ∙ sym b.0

module _ (old : World) (u : UpdateData) where
  -- each name stays known once, at the index that it has
  pub known_once_after : IsKnownOnce old.known → IsKnownOnce (merged_world old u).known
  known_once_after once = go (index_of old u.name) refl
    where
      go : (o : Option ℕ) → index_of old u.name ≡ o → IsKnownOnce (merged_world old u).known
      go None e = subst IsKnownOnce (sym (known_grows old u e)) (once_pushed old.known u.name (λ i at. unknown-index_of old u.name i e at) once)
      go (Some i) e = subst IsKnownOnce (sym (known_stays old u i e)) once

  pub name_stays : (i : ℕ) (name : TreeId) → slice_get old.known i ≡ Some name → slice_get (merged_world old u).known i ≡ Some name
  name_stays i name at = go (index_of old u.name) refl
    where
      go : (o : Option ℕ) → index_of old u.name ≡ o → slice_get (merged_world old u).known i ≡ Some name
      go None e = subst (λ k. slice_get k i ≡ Some name) (sym (known_grows old u e)) (slice_get_front old.known (u.name ∷ []) i name at)
      go (Some j) e = subst (λ k. slice_get k i ≡ Some name) (sym (known_stays old u j e)) at

  pub length_stays : length old.known ≤ length (merged_world old u).known
  length_stays = go (index_of old u.name) refl
    where
      go : (o : Option ℕ) → index_of old u.name ≡ o → length old.known ≤ length (merged_world old u).known
      go None e = rw (known_grows old u e) (omega (arith, length-append old.known (u.name ∷ [])))
      go (Some j) e = rw (known_stays old u j e) (omega arith)

  -- the named tree is known afterwards
  pub index_for_known : index_for old u.name < length (merged_world old u).known
  index_for_known = go (index_of old u.name) refl
    where
      go : (o : Option ℕ) → index_of old u.name ≡ o → unwrap_or (index_of old u.name) (length old.known) < length (merged_world old u).known
      go None e = rw (known_grows old u e) (rw e (omega (arith, length-append old.known (u.name ∷ []))))
      go (Some j) e = rw (known_stays old u j e) (rw e (slice_get_within old.known j u.name (known-index_of old u.name j e)))

  -- how many names are known, where an index is left
  pub length_fits : (n : ℕ) → length old.known ≤ n → ((index_of old u.name ≡ None) → length old.known < n) → length (merged_world old u).known ≤ n
  length_fits n fits left = go (index_of old u.name) refl
    where
      go : (o : Option ℕ) → index_of old u.name ≡ o → length (merged_world old u).known ≤ n
      go None e = rw (known_grows old u e) (omega (arith, length-append old.known (u.name ∷ []), left e))
      go (Some j) e = rw (known_stays old u j e) fits
