-- What the lists of a decision have, from verdicts in order of their ids.
use Rattle.std.proofs.Common.{Contains, ◌≡◌, ℕ, ◌+◌, ◌<◌, ◌≤◌, take, get_or, Bool, true, false, cond, not, List, [], ◌∷◌, ◌++◌, map, length, Option, Some, None, option_map, ⊎_elim, refl, sym, ap, ◌∙◌, subst, arith}
use Rattle.std.specs.Prelude.{is_some, option_and_then, option_to_list}
use Rattle.std.specs.List.{flat_map, AllByRecursion}
use Rattle.std.specs.List.Sorted.{IsStrictlySortedBy}
use Rattle.std.specs.Ordering.{is_eq}
use Rattle.std.specs.Map.{keys_of, lookup}
use Rattle.std.proofs.lemmas.Grind.{flat_map-append}
use Rattle.std.proofs.lemmas.List.{append-nil, take_more}
use Rattle.std.specs.BTreeMap.{is_at}
use Rattle.std.specs.declared.cmp.Ordering.TheVariants.{Less}
use Rattle.model.specs.declared.FullNodeId.{FullNodeId}
use Rattle.model.specs.FullIds.{full_cmp}
use Rattle.model.proofs.Members.{contains_none, contains_head, contains_later, contains_cases}
use Rattle.tree_changes.specs.declared.decision.NodeChange.{NodeChange}
use Rattle.tree_changes.specs.Changes.{NodeChanges, change_at}
use Rattle.tree_plan.specs.declared.verdicts.Verdict.{Verdict}
use Rattle.tree_plan.specs.declared.writing.Group.{Group}
use Rattle.tree_plan.specs.declared.writing.Group.TheVariants as group
use Rattle.tree_plan.specs.Writing.{change_of, change_entry, group_of, event_in, event_of, told_of}
use Rattle.tree_plan.proofs.IdMaps.{same_key, at_itself}

abbrev pub Entries : Type 0
Entries = List (FullNodeId × Verdict)

abbrev pub verdict_at : Entries → FullNodeId → Option Verdict
verdict_at es id = lookup (is_at (full_cmp id)) es

abbrev pub AreSorted : Entries → Type 0
AreSorted es = IsStrictlySortedBy full_cmp (keys_of es)

-- the ids of the verdicts that pass
abbrev pub ids_where : (Verdict → Bool) → Entries → List FullNodeId
ids_where p [] = []
ids_where p (e ∷ es) = cond (p e.1) (e.0 ∷ ids_where p es) (ids_where p es)

abbrev same_group : Group → Group → Bool
same_group group.Added group.Added = true
same_group group.Updated group.Updated = true
same_group group.Removed group.Removed = true
same_group group.Added group.Updated = false
same_group group.Added group.Removed = false
same_group group.Updated group.Added = false
same_group group.Updated group.Removed = false
same_group group.Removed group.Added = false
same_group group.Removed group.Updated = false

abbrev pub is_in : Group → Verdict → Bool
is_in g v = same_group (group_of v) g

abbrev pub has_change : Verdict → Bool
has_change v = is_some (change_of v)

not_after : (k : FullNodeId) (es : Entries) → AllByRecursion (λ y. full_cmp k y ≡ Less) (keys_of es) → verdict_at es k ≡ None
not_after k [] h = refl
not_after k (e ∷ es) h = ap (λ o. cond (is_eq o) (Some e.1) (verdict_at es k)) h.0 ∙ not_after k es h.1

module _ (p : Verdict → Bool) where
  below_where : (k : FullNodeId) (es : Entries) → AllByRecursion (λ y. full_cmp k y ≡ Less) (keys_of es) → AllByRecursion (λ y. full_cmp k y ≡ Less) (ids_where p es)
  below_where k [] h = tt
  below_where k (e ∷ es) h = go (p e.1) (below_where k es h.1)
    where
      go : (b : Bool) → AllByRecursion (λ y. full_cmp k y ≡ Less) (ids_where p es) → AllByRecursion (λ y. full_cmp k y ≡ Less) (cond b (e.0 ∷ ids_where p es) (ids_where p es))
      go true rest = (h.0, rest)
      go false rest = rest

  pub sorted_where : (es : Entries) → AreSorted es → IsStrictlySortedBy full_cmp (ids_where p es)
  unfolding IsStrictlySortedBy
  sorted_where [] h = tt
  sorted_where (e ∷ es) h = go (p e.1) (sorted_where es h.1)
    where
      go : (b : Bool) → IsStrictlySortedBy full_cmp (ids_where p es) → IsStrictlySortedBy full_cmp (cond b (e.0 ∷ ids_where p es) (ids_where p es))
      go true rest = (below_where e.0 es h.0, rest)
      go false rest = rest

  in_keys : (es : Entries) (id : FullNodeId) → Contains (ids_where p es) id → (v : Verdict) × (AllByRecursion (λ y. full_cmp id y ≡ Less) (keys_of es) → ⊥)
  in_keys [] id c = absurd (contains_none id c)
  in_keys (e ∷ es) id c = go (p e.1) c (in_keys es id)
    where
      here : e.0 ≡ id → AllByRecursion (λ y. full_cmp id y ≡ Less) (keys_of (e ∷ es)) → ⊥
      here same h =
          let less : is_at (full_cmp id) id ≡ false = ap is_eq (subst (λ y. full_cmp id y ≡ Less) same h.0) in
          let equal : is_at (full_cmp id) id ≡ true = at_itself id in
          let clash : false ≡ true = sym less ∙ equal in cc

      go : (b : Bool) → Contains (cond b (e.0 ∷ ids_where p es) (ids_where p es)) id → (Contains (ids_where p es) id → (v : Verdict) × (AllByRecursion (λ y. full_cmp id y ≡ Less) (keys_of es) → ⊥)) → (v : Verdict) × (AllByRecursion (λ y. full_cmp id y ≡ Less) (keys_of (e ∷ es)) → ⊥)
      go true c later = ⊎_elim (λ same. (e.1, here same)) (λ d. let f = later d in (f.0, λ h. f.1 h.1)) (contains_cases e.0 id (ids_where p es) c)
      go false c later = let f = later c in (f.0, λ h. f.1 h.1)

  -- an id is listed exactly where its verdict passes
  pub where_passes : (es : Entries) → AreSorted es → (id : FullNodeId) → Contains (ids_where p es) id → (v : Verdict) × (verdict_at es id ≡ Some v) × (p v ≡ true)
  unfolding IsStrictlySortedBy
  where_passes [] h id c = absurd (contains_none id c)
  where_passes (e ∷ es) h id c = go (p e.1) refl (is_at (full_cmp id) e.0) refl c (where_passes es h.1 id)
    where
      behind : id ≡ e.0 → Contains (ids_where p es) id → ⊥
      behind same d = (in_keys es id d).1 (subst (λ k. AllByRecursion (λ y. full_cmp k y ≡ Less) (keys_of es)) (sym same) h.0)

      go : (b : Bool) → p e.1 ≡ b → (t : Bool) → is_at (full_cmp id) e.0 ≡ t → Contains (cond b (e.0 ∷ ids_where p es) (ids_where p es)) id
          → (Contains (ids_where p es) id → (v : Verdict) × (verdict_at es id ≡ Some v) × (p v ≡ true)) → (v : Verdict) × (cond t (Some e.1) (verdict_at es id) ≡ Some v) × (p v ≡ true)
      go true passes true same c later = (e.1, refl, passes)
      go true passes false other c later = ⊎_elim (λ x. absurd (let yes : is_at (full_cmp id) e.0 ≡ true = subst (λ k. is_at (full_cmp id) k ≡ true) (sym x) (at_itself id) in let clash : false ≡ true = sym other ∙ yes in cc)) later (contains_cases e.0 id (ids_where p es) c)
      go false fails true same c later = absurd (behind (same_key id e.0 same) c)
      go false fails false other c later = later c

  pub passes_where : (es : Entries) (id : FullNodeId) (v : Verdict) → verdict_at es id ≡ Some v → p v ≡ true → Contains (ids_where p es) id
  passes_where [] id v at is = cc
  passes_where (e ∷ es) id v at is = go (is_at (full_cmp id) e.0) refl at (passes_where es id v)
    where
      more : (b : Bool) → Contains (ids_where p es) id → Contains (cond b (e.0 ∷ ids_where p es) (ids_where p es)) id
      more true c = contains_later e.0 id (ids_where p es) c
      more false c = c

      here : (b : Bool) → b ≡ true → e.0 ≡ id → Contains (cond b (e.0 ∷ ids_where p es) (ids_where p es)) id
      here true is_so same = contains_head e.0 id (ids_where p es) same
      here false is_so same = cc

      go : (t : Bool) → is_at (full_cmp id) e.0 ≡ t → cond t (Some e.1) (verdict_at es id) ≡ Some v → (verdict_at es id ≡ Some v → p v ≡ true → Contains (ids_where p es) id) → Contains (cond (p e.1) (e.0 ∷ ids_where p es) (ids_where p es)) id
      go true same found later = let one : e.1 ≡ v = cc in here (p e.1) (ap p one ∙ is) (sym (same_key id e.0 same))
      go false other found later = more (p e.1) (later found is)

  pub length-where : (es : Entries) → length (ids_where p es) ≤ length es
  length-where [] = omega arith
  length-where (e ∷ es) = go (p e.1) (length-where es)
    where
      go : (b : Bool) → length (ids_where p es) ≤ length es → length (cond b (e.0 ∷ ids_where p es) (ids_where p es)) ≤ length (e ∷ es)
      go true h = omega arith
      go false h = omega arith

-- those that pass, and the others, are all
pub length-both : (p : Verdict → Bool) (es : Entries) → length (ids_where p es) + length (ids_where (λ v. not (p v)) es) ≡ length es
length-both p [] = omega arith
length-both p (e ∷ es) = go (p e.1) (length-both p es)
  where
    go : (b : Bool) → length (ids_where p es) + length (ids_where (λ v. not (p v)) es) ≡ length es
        → length (cond b (e.0 ∷ ids_where p es) (ids_where p es)) + length (cond (not b) (e.0 ∷ ids_where (λ v. not (p v)) es) (ids_where (λ v. not (p v)) es)) ≡ length (e ∷ es)
    go true h = omega arith
    go false h = omega arith

-- ---- events

told_one : (g own : Group) (id : FullNodeId) (ids : List FullNodeId) → event_in own g id ++ map (event_of g) ids ≡ map (event_of g) (cond (same_group own g) (id ∷ ids) ids)
told_one group.Added group.Added id ids = refl
told_one group.Updated group.Updated id ids = refl
told_one group.Removed group.Removed id ids = refl
told_one group.Added group.Updated id ids = refl
told_one group.Added group.Removed id ids = refl
told_one group.Updated group.Added id ids = refl
told_one group.Updated group.Removed id ids = refl
told_one group.Removed group.Added id ids = refl
told_one group.Removed group.Updated id ids = refl

-- the events of a group are those of its ids
pub told-where : (g : Group) (es : Entries) → flat_map (told_of g) es ≡ map (event_of g) (ids_where (is_in g) es)
told-where g [] = refl
told-where g (e ∷ es) = ap (λ xs. event_in (group_of e.1) g e.0 ++ xs) (told-where g es) ∙ told_one g (group_of e.1) e.0 (ids_where (is_in g) es)

-- a verdict is of one group
pub three_groups : (es : Entries) → length (ids_where (is_in group.Added) es) + length (ids_where (is_in group.Updated) es) + length (ids_where (is_in group.Removed) es) ≡ length es
three_groups [] = omega arith
three_groups (e ∷ es) = go (group_of e.1) (three_groups es)
  where
    go : (own : Group) → length (ids_where (is_in group.Added) es) + length (ids_where (is_in group.Updated) es) + length (ids_where (is_in group.Removed) es) ≡ length es
        → length (cond (same_group own group.Added) (e.0 ∷ ids_where (is_in group.Added) es) (ids_where (is_in group.Added) es))
        + length (cond (same_group own group.Updated) (e.0 ∷ ids_where (is_in group.Updated) es) (ids_where (is_in group.Updated) es))
        + length (cond (same_group own group.Removed) (e.0 ∷ ids_where (is_in group.Removed) es) (ids_where (is_in group.Removed) es)) ≡ length (e ∷ es)
    go group.Added h = omega arith
    go group.Updated h = omega arith
    go group.Removed h = omega arith

-- ---- changes

abbrev pub changes_in : Entries → NodeChanges
changes_in es = flat_map change_entry es

keys_one : (o : Option NodeChange) (id : FullNodeId) (rest : NodeChanges) (ids : List FullNodeId) → map (λ (c : FullNodeId × NodeChange). c.0) rest ≡ ids
    → map (λ (c : FullNodeId × NodeChange). c.0) (option_to_list (option_map (λ c. (id, c)) o) ++ rest) ≡ cond (is_some o) (id ∷ ids) ids
keys_one None id rest ids h = h
keys_one (Some c) id rest ids h = ap (λ xs. id ∷ xs) h

pub changed_ids : (es : Entries) → map (λ (c : FullNodeId × NodeChange). c.0) (changes_in es) ≡ ids_where has_change es
changed_ids [] = refl
changed_ids (e ∷ es) = keys_one (change_of e.1) e.0 (changes_in es) (ids_where has_change es) (changed_ids es)

change_one : (o : Option NodeChange) (k id : FullNodeId) (v : Verdict) (rest : NodeChanges) (later : Option Verdict) → change_of v ≡ o → change_at rest id ≡ option_and_then change_of later → (is_at (full_cmp id) k ≡ true → later ≡ None)
    → change_at (option_to_list (option_map (λ c. (k, c)) o) ++ rest) id ≡ option_and_then change_of (cond (is_at (full_cmp id) k) (Some v) later)
change_one (Some c) k id v rest later is h alone = go (is_at (full_cmp id) k)
  where
    go : (b : Bool) → cond b (Some c) (change_at rest id) ≡ option_and_then change_of (cond b (Some v) later)
    go true = sym is
    go false = h
change_one None k id v rest later is h alone = go (is_at (full_cmp id) k) refl
  where
    go : (b : Bool) → is_at (full_cmp id) k ≡ b → change_at rest id ≡ option_and_then change_of (cond b (Some v) later)
    go true same = h ∙ ap (option_and_then change_of) (alone same) ∙ sym is
    go false other = h

-- the change at an id is that of its verdict
pub change_at-in : (es : Entries) → AreSorted es → (id : FullNodeId) → change_at (changes_in es) id ≡ option_and_then change_of (verdict_at es id)
unfolding IsStrictlySortedBy
change_at-in [] h id = refl
change_at-in (e ∷ es) h id = change_one (change_of e.1) e.0 id e.1 (changes_in es) (verdict_at es id) refl (change_at-in es h.1 id)
    (λ same. subst (λ k. verdict_at es k ≡ None) (sym (same_key id e.0 same)) (not_after e.0 es h.0))

pub length-changes : (es : Entries) → length (changes_in es) ≤ length es
length-changes [] = omega arith
length-changes (e ∷ es) = go (change_of e.1) (length-changes es)
  where
    go : (o : Option NodeChange) → length (changes_in es) ≤ length es → length (option_to_list (option_map (λ c. (e.0, c)) o) ++ changes_in es) ≤ length (e ∷ es)
    go None h = omega arith
    go (Some c) h = omega arith

-- one more verdict, as a loop reads it
pub changes_more : (es xs : Entries) → xs ≡ es → (k : ℕ) (d : FullNodeId × Verdict) → k < length xs → flat_map change_entry (take (k + 1) es) ≡ flat_map change_entry (take k es) ++ change_entry (get_or xs k d)
changes_more es xs all k d inside =
    let lt : k < length es = subst (λ (ys : Entries). k < length ys) all inside in
    ap (flat_map change_entry) (take_more es k d lt) ∙ flat_map-append change_entry (take k es) (get_or es k d ∷ [])
    ∙ ap (λ ys. flat_map change_entry (take k es) ++ ys) (append-nil (change_entry (get_or es k d)))
    ∙ ap (λ (ys : Entries). flat_map change_entry (take k es) ++ change_entry (get_or ys k d)) (sym all)
