-- What the maps of an overlaid world have at a key, and what changed records say of a name.
use Rattle.std.proofs.Common.{Contains, ◌≡◌, ◌≢◌, ℕ, List, [], ◌∷◌, Bool, true, false, cond, Option, Some, None, ◌⊎◌, inl, inr, ⊎_elim, refl, sym, ap, ◌∙◌, subst}
use Rattle.std.specs.Prelude.{if◌then◌else◌}
use Rattle.std.specs.Option.{option_map_or}
use Rattle.std.specs.Cmp.{Equal-is, nat_cmp_total, eq_by_cmp_equiv}
use Rattle.std.specs.Ordering.{nat_cmp, eq_by_cmp}
use Rattle.std.specs.FinMap.{FinMap, get, get-insert, get-remove, nat_cmp-IsAntisymmetric}
use Rattle.schema.specs.NodeData.{NodeData}
use Rattle.schema.specs.declared.NodeId.{NodeId}
use Rattle.schema.specs.declared.TreeId.{TreeId}
use Rattle.model.specs.declared.FullNodeId.{FullNodeId}
use Rattle.model.specs.FullIds.{full_cmp, full_total, exact_full}
use Rattle.model.specs.World.{Tree}
use Rattle.model.proofs.Worlds.Names.{is_name, is_name-true, is_name-itself}
use Rattle.model.proofs.Members.{contains_none, contains_head, contains_later, contains_cases}
use Rattle.tree_changes.specs.declared.look_ups.TreeRecord.{TreeRecord}
use Rattle.tree_changes.specs.declared.decision.NodeChange.{NodeChange}
use Rattle.tree_changes.specs.Changes.{NodeChanges, change_at, changed_data, set_at, put_all, tree_from, set_tree, put_tree, put_trees, tree_change}

pub get-set_at : (m : FinMap full_cmp NodeData) (k : FullNodeId) (d : Option NodeData) (q : FullNodeId) → get (set_at m k d) q ≡ cond (eq_by_cmp full_cmp q k) d (get m q)
get-set_at m k (Some d) q = get-insert full_total m k d q
get-set_at m k None q = get-remove full_total m k q

pub get-set_tree : (m : FinMap nat_cmp Tree) (k : ℕ) (t : Option Tree) (q : ℕ) → get (set_tree m k t) q ≡ cond (eq_by_cmp nat_cmp q k) t (get m q)
get-set_tree m k (Some t) q = get-insert nat_cmp_total m k t q
get-set_tree m k None q = get-remove nat_cmp_total m k q

-- ---- nodes

-- the data after a change that may be missing
abbrev pub effect : List (NodeId × NodeData) → Option NodeChange → Option NodeData → Option NodeData
effect nodes None before = before
effect nodes (Some c) before = changed_data nodes c before

by_case : (nodes : List (NodeId × NodeData)) (b : Bool) (q k : FullNodeId) (m : FinMap full_cmp NodeData) (c : NodeChange) (o : Option NodeChange) → (b ≡ true → q ≡ k) → cond b (changed_data nodes c (get m k)) (effect nodes o (get m q)) ≡ effect nodes (cond b (Some c) o) (get m q)
by_case nodes true q k m c o e = ap (λ x. changed_data nodes c (get m x)) (sym (e refl))
by_case nodes false q k m c o e = refl

pub get-put_all : (nodes : List (NodeId × NodeData)) (m : FinMap full_cmp NodeData) (cs : NodeChanges) (q : FullNodeId) → get (put_all nodes m cs) q ≡ effect nodes (change_at cs q) (get m q)
get-put_all nodes m [] q = refl
get-put_all nodes m (e ∷ es) q =
    get-set_at (put_all nodes m es) e.0 (changed_data nodes e.1 (get m e.0)) q
    ∙ ap (cond (eq_by_cmp full_cmp q e.0) (changed_data nodes e.1 (get m e.0))) (get-put_all nodes m es q)
    ∙ by_case nodes (eq_by_cmp full_cmp q e.0) q e.0 m e.1 (change_at es q) (λ b. exact_full q e.0 ((Equal-is (full_cmp q e.0)).0 b))

-- ---- trees

-- the tree with this index after the records, where this is the one before
abbrev pub tree_at : List TreeRecord → ℕ → Option Tree → Option Tree
tree_at [] q t = t
tree_at (r ∷ rs) q t = tree_at rs q (option_map_or (λ index. cond (eq_by_cmp nat_cmp q index) (tree_from r.root r.focus) t) r.index t)

get-put_tree : (m : FinMap nat_cmp Tree) (o : Option ℕ) (t : Option Tree) (q : ℕ) → get (option_map_or (λ index. set_tree m index t) o m) q ≡ option_map_or (λ index. cond (eq_by_cmp nat_cmp q index) t (get m q)) o (get m q)
get-put_tree m None t q = refl
get-put_tree m (Some index) t q = get-set_tree m index t q

pub get-put_trees : (m : FinMap nat_cmp Tree) (rs : List TreeRecord) (q : ℕ) → get (put_trees m rs) q ≡ tree_at rs q (get m q)
get-put_trees m [] q = refl
get-put_trees m (r ∷ rs) q = get-put_trees (put_tree m r) rs q ∙ ap (tree_at rs q) (get-put_tree m r.index (tree_from r.root r.focus) q)

same_index : (q k : ℕ) → eq_by_cmp nat_cmp q k ≡ true → q ≡ k
same_index q k e = nat_cmp-IsAntisymmetric q k ((Equal-is (nat_cmp q k)).0 e)

itself : (q : ℕ) → eq_by_cmp nat_cmp q q ≡ true
itself q = (eq_by_cmp_equiv nat_cmp_total).refl q

module _ (q : ℕ) (x : Option Tree) where
  -- one step: a record of this index gives x, and another leaves it
  step : (o : Option ℕ) (p t : Option Tree) → (o ≡ Some q → p ≡ x) → t ≡ x → option_map_or (λ index. cond (eq_by_cmp nat_cmp q index) p t) o t ≡ x
  step None p t gives same = same
  step (Some k) p t gives same = go (eq_by_cmp nat_cmp q k) refl
    where
      go : (b : Bool) → eq_by_cmp nat_cmp q k ≡ b → cond b p t ≡ x
      go true e = gives (ap Some (sym (same_index q k e)))
      go false e = same

  hit : (o : Option ℕ) (p t : Option Tree) → o ≡ Some q → p ≡ x → option_map_or (λ index. cond (eq_by_cmp nat_cmp q index) p t) o t ≡ x
  hit o p t is gives = ap (λ y. option_map_or (λ index. cond (eq_by_cmp nat_cmp q index) p t) y t) is ∙ ap (λ b. cond b p t) (itself q) ∙ gives

  -- where the records of this index give one tree, and it was there before, it stays
  pub tree_at_same : (rs : List TreeRecord) (t : Option Tree) → ((r : TreeRecord) → Contains rs r → r.index ≡ Some q → tree_from r.root r.focus ≡ x) → t ≡ x → tree_at rs q t ≡ x
  tree_at_same [] t all same = same
  tree_at_same (r ∷ rs) t all same =
      tree_at_same rs (option_map_or (λ index. cond (eq_by_cmp nat_cmp q index) (tree_from r.root r.focus) t) r.index t) (λ r' c. all r' (contains_later r r' rs c))
      (step r.index (tree_from r.root r.focus) t (all r (contains_head r r rs refl)) same)

  -- where they give one tree, and there is one, that is the tree afterwards
  pub tree_at_some : (rs : List TreeRecord) (t : Option Tree) (r0 : TreeRecord) → ((r : TreeRecord) → Contains rs r → r.index ≡ Some q → tree_from r.root r.focus ≡ x) → Contains rs r0 → r0.index ≡ Some q → tree_at rs q t ≡ x
  tree_at_some [] t r0 all c is = absurd (contains_none r0 c)
  tree_at_some (r ∷ rs) t r0 all c is = go (contains_cases r r0 rs c) (λ c. tree_at_some rs (option_map_or (λ index. cond (eq_by_cmp nat_cmp q index) (tree_from r.root r.focus) t) r.index t) r0 (λ r' d. all r' (contains_later r r' rs d)) c is)
    where
      go : (r ≡ r0) ⊎ Contains rs r0
          → (Contains rs r0 → tree_at rs q (option_map_or (λ index. cond (eq_by_cmp nat_cmp q index) (tree_from r.root r.focus) t) r.index t) ≡ x)
          → tree_at rs q (option_map_or (λ index. cond (eq_by_cmp nat_cmp q index) (tree_from r.root r.focus) t) r.index t) ≡ x
      go (inl e) later =
          tree_at_same rs (option_map_or (λ index. cond (eq_by_cmp nat_cmp q index) (tree_from r.root r.focus) t) r.index t) (λ r' c. all r' (contains_later r r' rs c))
          (hit r.index (tree_from r.root r.focus) t (ap (λ y. y.index) e ∙ is) (all r (contains_head r r rs refl) (ap (λ y. y.index) e ∙ is)))
      go (inr c) later = later c

-- whether a record has this index
pub find_index : (rs : List TreeRecord) (q : ℕ) → ((r : TreeRecord) × Contains rs r × (r.index ≡ Some q)) ⊎ ((r : TreeRecord) → Contains rs r → r.index ≢ Some q)
find_index [] q = inr (λ r c. absurd (contains_none r c))
find_index (r ∷ rs) q = go r.index refl (find_index rs q)
  where
    Found : Type 0
    Found = ((r' : TreeRecord) × Contains (r ∷ rs) r' × (r'.index ≡ Some q)) ⊎ ((r' : TreeRecord) → Contains (r ∷ rs) r' → r'.index ≢ Some q)

    later : (r.index ≢ Some q) → ((r : TreeRecord) × Contains rs r × (r.index ≡ Some q)) ⊎ ((r : TreeRecord) → Contains rs r → r.index ≢ Some q) → ((r' : TreeRecord) × Contains (r ∷ rs) r' × (r'.index ≡ Some q)) ⊎ ((r' : TreeRecord) → Contains (r ∷ rs) r' → r'.index ≢ Some q)
    later other (inl f) = inl (f.0, contains_later r f.0 rs f.1, f.2)
    later other (inr none) = inr (λ r' c. ⊎_elim (λ e is. other (ap (λ y. y.index) e ∙ is)) (λ c. none r' c) (contains_cases r r' rs c))

    go : (o : Option ℕ) → r.index ≡ o → ((r : TreeRecord) × Contains rs r × (r.index ≡ Some q)) ⊎ ((r : TreeRecord) → Contains rs r → r.index ≢ Some q) → ((r' : TreeRecord) × Contains (r ∷ rs) r' × (r'.index ≡ Some q)) ⊎ ((r' : TreeRecord) → Contains (r ∷ rs) r' → r'.index ≢ Some q)
    go None e f = later (λ is. let no : None ≡ Some q = sym e ∙ is in cc) f
    go (Some k) e f = by_test (eq_by_cmp nat_cmp q k) refl f
      where
        by_test : (b : Bool) → eq_by_cmp nat_cmp q k ≡ b → ((r : TreeRecord) × Contains rs r × (r.index ≡ Some q)) ⊎ ((r : TreeRecord) → Contains rs r → r.index ≢ Some q) → ((r' : TreeRecord) × Contains (r ∷ rs) r' × (r'.index ≡ Some q)) ⊎ ((r' : TreeRecord) → Contains (r ∷ rs) r' → r'.index ≢ Some q)
        by_test true t f = inl (r, contains_head r r rs refl, e ∙ ap Some (sym (same_index q k t)))
        by_test false t f = later (λ is. let same : Some k ≡ Some q = sym e ∙ is in let one : k ≡ q = cc in let yes : eq_by_cmp nat_cmp q k ≡ true = subst (λ z. eq_by_cmp nat_cmp q z ≡ true) (sym one) (itself q) in let clash : false ≡ true = sym t ∙ yes in cc) f

-- ---- the record of a name

-- the changed record of a name is among the records, and of this name
pub tree_change_in : (rs : List TreeRecord) (name : TreeId) (t : TreeRecord) → tree_change rs name ≡ Some t → Contains rs t × (t.id ≡ name)
tree_change_in [] name t e = cc
tree_change_in (r ∷ rs) name t e = go (is_name name r.id) refl e (tree_change_in rs name t)
  where
    go : (b : Bool) → is_name name r.id ≡ b → (if b then Some r else tree_change rs name) ≡ Some t → (tree_change rs name ≡ Some t → Contains rs t × (t.id ≡ name)) → Contains (r ∷ rs) t × (t.id ≡ name)
    go true same is later = let one : r ≡ t = cc in (contains_head r t rs one, subst (λ y. y.id ≡ name) one (is_name-true name r.id same))
    go false other is later = let f = later is in (contains_later r t rs f.0, f.1)

-- where there is none, no record has this name
pub tree_change_none : (rs : List TreeRecord) (name : TreeId) → tree_change rs name ≡ None → (t : TreeRecord) → Contains rs t → t.id ≢ name
tree_change_none [] name e t c = absurd (contains_none t c)
tree_change_none (r ∷ rs) name e t c = go (is_name name r.id) refl e (contains_cases r t rs c) (tree_change_none rs name)
  where
    go : (b : Bool) → is_name name r.id ≡ b → (if b then Some r else tree_change rs name) ≡ None → (r ≡ t) ⊎ Contains rs t → (tree_change rs name ≡ None → (t : TreeRecord) → Contains rs t → t.id ≢ name) → t.id ≢ name
    go true same is d later = let clash : Some r ≡ None = is in absurd cc
    go false other is (inl e) later = λ named.
        let yes : is_name name r.id ≡ true = subst (λ k. is_name name k ≡ true) (sym (ap (λ y. y.id) e ∙ named)) (is_name-itself name) in
        let clash : false ≡ true = sym other ∙ yes in cc
    go false other is (inr d) later = later is t d
