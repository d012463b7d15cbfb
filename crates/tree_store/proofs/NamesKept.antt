-- Names whose records are made, written and taken back.
use Rattle.std.proofs.Common.{◌≡◌, ◌≢◌, ℕ, suc, ◌<◌, length, get_or, List, [], ◌∷◌, Bool, true, false, cond, Option, Some, None, refl, sym, ap, subst, ◌∙◌, arith, inl, inr, ⊎_elim}
use Rattle.std.specs.Prelude.{is_some, IsSome, All, AllPairs, option_and_then, Contains, ◌⊎◌}
use Rattle.std.specs.Map.{keys_of, lookup}
use Rattle.model.proofs.Members.{contains_none, contains_head, contains_later, contains_cases}
use Rattle.std.specs.BTreeMap.{is_at}
use Rattle.std.specs.Ordering.{nat_cmp, is_eq}
use Rattle.std.specs.Cmp.Lexicographic.{slice_cmp}
use Rattle.schema.specs.declared.TreeId.{TreeId}
use Rattle.model.proofs.Worlds.Names.{is_name-true, is_name-itself}
use Rattle.model.specs.FullIds.{name_cmp}
use Rattle.tree_changes.specs.declared.look_ups.TreeRecord.{TreeRecord}
use Rattle.tree_changes.specs.Changes.{tree_change}
use Rattle.tree_store.specs.declared.records.NameRecord.{NameRecord}
use Rattle.tree_store.proofs.KeptSlots.{none_from_false}
use Rattle.tree_store.specs.KeptNames.{name_kept, name_after, kept_in, IsNoBlank, IsOneOf}

same_name : (k q : TreeId) → is_at (name_cmp k) q ≡ true → k ≡ q
same_name k q e = is_name-true q k e

-- where nothing is said of a name, an empty record more or less says the same
pub blank_kept : (old new : TreeId → Option NameRecord) (name : TreeId) (v : Option NameRecord) → kept_in v ≡ (None, None) → ((q : TreeId) → new q ≡ cond (is_at (name_cmp name) q) v (old q)) → kept_in (old name) ≡ (None, None) → (q : TreeId) → kept_in (new q) ≡ kept_in (old q)
blank_kept old new name v blank up none q = ap kept_in (up q) ∙ go (is_at (name_cmp name) q) refl
  where
    go : (b : Bool) → is_at (name_cmp name) q ≡ b → kept_in (cond b v (old q)) ≡ kept_in (old q)
    go true e = blank ∙ sym none ∙ ap (λ k. kept_in (old k)) (same_name name q e)
    go false e = refl

pub still_there : (old new : TreeId → Option NameRecord) (name : TreeId) (v : NameRecord) → ((q : TreeId) → new q ≡ cond (is_at (name_cmp name) q) (Some v) (old q)) → (q : TreeId) → IsSome (old q) → IsSome (new q)
still_there old new name v up q there = subst (λ o. IsSome o) (sym (up q)) (go (is_at (name_cmp name) q))
  where
    go : (b : Bool) → IsSome (cond b (Some v) (old q))
    go true = refl
    go false = there

pub unkept : (o : Option NameRecord) → is_some o ≡ false → kept_in o ≡ (None, None)
unkept o e = ap kept_in (none_from_false o e)

pub unused : (o : Option NameRecord) → is_some (option_and_then (λ r. r.index) o) ≡ false → is_some (option_and_then (λ r. r.graft) o) ≡ false → kept_in o ≡ (None, None)
unused o i g = λ j. (none_from_false (option_and_then (λ r. r.index) o) i j, none_from_false (option_and_then (λ r. r.graft) o) g j)

unchanged : (name : TreeId) (rs : List TreeRecord) → ((k : ℕ) (d : TreeRecord) → k < length rs → name ≢ (get_or rs k d).id) → tree_change rs name ≡ None
unchanged name [] h = refl
unchanged name (r ∷ rs) h = go (is_eq (slice_cmp nat_cmp r.id.0 name.0)) refl (unchanged name rs (λ k d less. h (suc k) d (omega (arith, less))))
  where
    go : (b : Bool) → is_eq (slice_cmp nat_cmp r.id.0 name.0) ≡ b → tree_change rs name ≡ None → cond b (Some r) (tree_change rs name) ≡ None
    go true e rest = absurd (h 0 r (omega arith) (sym (is_name-true name r.id e)))
    go false e rest = rest

-- what is left to write after the first changed name is written
module _ (before after : TreeId → Option NameRecord) (r : TreeRecord) (rs : List TreeRecord) (once : AllPairs (λ a b. a.id ≢ b.id) (r ∷ rs))
    (written : (q : TreeId) → after q ≡ cond (is_eq (name_cmp r.id q)) (name_kept r) (before q)) where
  own_unchanged : tree_change rs r.id ≡ None
  own_unchanged = unchanged r.id rs (λ k d less. once 0 (suc k) d (omega arith) (omega (arith, less)))

  pub names_next : (q : TreeId) → name_after (tree_change rs q) (after q) ≡ name_after (tree_change (r ∷ rs) q) (before q)
  names_next q = ap (name_after (tree_change rs q)) (written q) ∙ go (is_eq (name_cmp r.id q)) refl
    where
      go : (b : Bool) → is_eq (name_cmp r.id q) ≡ b → name_after (tree_change rs q) (cond b (name_kept r) (before q)) ≡ name_after (cond b (Some r) (tree_change rs q)) (before q)
      go true e = ap (λ o. name_after o (name_kept r)) (ap (tree_change rs) (sym (is_name-true q r.id e)) ∙ own_unchanged)
      go false e = refl

  pub there_next : ((k : ℕ) (d : TreeRecord) → k < length (r ∷ rs) → IsSome (before (get_or (r ∷ rs) k d).id)) → (k : ℕ) (d : TreeRecord) → k < length rs → IsSome (after (get_or rs k d).id)
  there_next there k d less = subst (λ o. IsSome o) (sym (written (get_or rs k d).id)) (go (is_eq (name_cmp r.id (get_or rs k d).id)) refl)
    where
      go : (b : Bool) → is_eq (name_cmp r.id (get_or rs k d).id) ≡ b → IsSome (cond b (name_kept r) (before (get_or rs k d).id))
      go true e = absurd (once 0 (suc k) d (omega arith) (omega (arith, less)) (is_name-true (get_or rs k d).id r.id e))
      go false e = there (suc k) d (omega (arith, less))

  pub once_next : AllPairs (λ a b. a.id ≢ b.id) rs
  once_next i j d less end = once (suc i) (suc j) d (omega (arith, less)) (omega (arith, end))

-- a name is among the keys exactly where something is kept of it
pub kept_is_key : (es : List (TreeId × NameRecord)) (name : TreeId) → IsSome (lookup (is_at (name_cmp name)) es) → Contains (keys_of es) name
kept_is_key [] name there = cc
kept_is_key (e ∷ es) name there = go (is_at (name_cmp name) e.0) refl there (kept_is_key es name)
  where
    go : (b : Bool) → is_at (name_cmp name) e.0 ≡ b → IsSome (cond b (Some e.1) (lookup (is_at (name_cmp name)) es)) → (IsSome (lookup (is_at (name_cmp name)) es) → Contains (keys_of es) name) → Contains (keys_of (e ∷ es)) name
    go true same h later = contains_head e.0 name (keys_of es) (sym (is_name-true e.0 name same))
    go false same h later = contains_later e.0 name (keys_of es) (later h)

pub key_is_kept : (es : List (TreeId × NameRecord)) (name : TreeId) → Contains (keys_of es) name → IsSome (lookup (is_at (name_cmp name)) es)
key_is_kept [] name c = absurd (contains_none name c)
key_is_kept (e ∷ es) name c = go (is_at (name_cmp name) e.0) refl (contains_cases e.0 name (keys_of es) c) (key_is_kept es name)
  where
    go : (b : Bool) → is_at (name_cmp name) e.0 ≡ b → (e.0 ≡ name) ⊎ Contains (keys_of es) name → (Contains (keys_of es) name → IsSome (lookup (is_at (name_cmp name)) es)) → IsSome (cond b (Some e.1) (lookup (is_at (name_cmp name)) es))
    go true same h later = refl
    go false same (inl is) later = let t : is_at (name_cmp name) e.0 ≡ true = ap (λ k. is_at (name_cmp name) k) is ∙ is_name-itself name in cc
    go false same (inr inside) later = later inside

-- ---- what was made is taken back

pub no_blank_index : (r : Option NameRecord) → is_some (option_and_then (λ x. x.index) r) ≡ true → IsNoBlank r
no_blank_index r some blank = let no : false ≡ true = sym (ap (λ p. is_some p.0) blank) ∙ some in cc

pub no_blank_graft : (r : Option NameRecord) → is_some (option_and_then (λ x. x.graft) r) ≡ true → IsNoBlank r
no_blank_graft r some blank = let no : false ≡ true = sym (ap (λ p. is_some p.1) blank) ∙ some in cc

-- one name is taken away
module _ (old new : TreeId → Option NameRecord) (name : TreeId) (up : (q : TreeId) → new q ≡ cond (is_at (name_cmp name) q) None (old q)) where
  pub away : new name ≡ None
  away = up name ∙ ap (λ b. cond b None (old name)) (is_name-itself name)

  pub fewer : (q : TreeId) → IsSome (new q) → IsSome (old q)
  fewer q there = go (is_at (name_cmp name) q) (subst (λ o. IsSome o) (up q) there)
    where
      go : (b : Bool) → IsSome (cond b None (old q)) → IsSome (old q)
      go true h = cc
      go false h = h

-- one name is put
pub one_more : (old new : TreeId → Option NameRecord) (name : TreeId) (v : NameRecord) → ((q : TreeId) → new q ≡ cond (is_at (name_cmp name) q) (Some v) (old q)) → (q : TreeId) → IsSome (new q) → IsSome (old q) ⊎ (name ≡ q)
one_more old new name v up q there = go (is_at (name_cmp name) q) refl (subst (λ o. IsSome o) (up q) there)
  where
    go : (b : Bool) → is_at (name_cmp name) q ≡ b → IsSome (cond b (Some v) (old q)) → IsSome (old q) ⊎ (name ≡ q)
    go true e h = inr (same_name name q e)
    go false e h = inl h

-- a name that has no blank record has none after fewer are there that say the same
pub stays_no_blank : (old new : Option NameRecord) → kept_in new ≡ kept_in old → (IsSome new → IsSome old) → IsNoBlank old → IsNoBlank new
stays_no_blank old None same fewer kept blank = refl
stays_no_blank None (Some x) same fewer kept blank = let no = fewer refl in cc
stays_no_blank (Some y) (Some x) same fewer kept blank = let no : Some y ≡ None = kept (sym same ∙ blank) in cc

-- after the made records are taken back there are no more than before
pub taken_back : (rs : List TreeRecord) (old made new : TreeId → Option NameRecord) → ((q : TreeId) → kept_in (made q) ≡ kept_in (old q)) → ((q : TreeId) → IsSome (made q) → IsSome (old q) ⊎ IsOneOf rs q) → ((q : TreeId) → kept_in (new q) ≡ kept_in (made q))
    → ((q : TreeId) → IsSome (new q) → IsSome (made q)) → All (λ r. IsNoBlank (new r.id)) rs → (q : TreeId) → IsSome (new q) → IsSome (old q)
taken_back rs old made new same_made more same less taken q there = by_old (old q) refl (more q (less q there))
  where
    by_old : (o : Option NameRecord) → old q ≡ o → IsSome (old q) ⊎ IsOneOf rs q → IsSome (old q)
    by_old o e (inl h) = h
    by_old (Some x) e (inr one) = ap is_some e
    by_old None e (inr one) =
        let no_blank : IsNoBlank (new q) = subst (λ k. IsNoBlank (new k)) one.2 (subst (λ (r : TreeRecord). IsNoBlank (new r.id)) one.1.2 (taken one.1.0 one.0 one.1.1)) in
        let none : new q ≡ None = no_blank (same q ∙ same_made q ∙ ap kept_in e) in
        let no : false ≡ true = sym (ap is_some none) ∙ there in cc

-- one more of these names is made
pub made_more : (rs : List TreeRecord) (old before after : TreeId → Option NameRecord) (r : TreeRecord) → Contains rs r → ((q : TreeId) → IsSome (before q) → IsSome (old q) ⊎ IsOneOf rs q) → ((q : TreeId) → IsSome (after q) → IsSome (before q) ⊎ (r.id ≡ q))
    → (q : TreeId) → IsSome (after q) → IsSome (old q) ⊎ IsOneOf rs q
made_more rs old before after r «in» more made q there = ⊎_elim (more q) (λ e. inr (r, «in», e)) (made q there)
