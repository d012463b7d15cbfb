-- Verdicts one after another.
use Rattle.std.proofs.Common.{Contains, ◌≡◌, ℕ, ◌+◌, ◌<◌, ◌≤◌, length, take, get_or, arith, Bool, true, false, cond, List, [], ◌∷◌, ◌++◌, map, Option, Some, None, ◌⊎◌, inl, inr, ⊎_elim, refl, sym, ap, ◌∙◌, subst}
use Rattle.std.specs.Prelude.{◌||◌, IsSome, is_some}
use Rattle.std.specs.Option.{option_or}
use Rattle.std.specs.List.{list_any}
use Rattle.std.specs.Borrow.{Bor}
use Rattle.std.specs.Map.Iter.{deref}
use Rattle.std.proofs.lemmas.List.{map-append, take_more, take_all}
use Rattle.std.proofs.lemmas.List.Elements.{Contains-push_cases}
use Rattle.std.proofs.lemmas.Map.Entries.{length-keys_of}
use Rattle.values_by_id.proofs.Places.{key_at}
use Rattle.values_by_id.proofs.Settled.{contains_from_row_at, row_at_pushed}
use Rattle.model.proofs.Update.RulesOrFault.{no_some}
use Rattle.std.specs.Map.{keys_of, lookup}
use Rattle.std.specs.BTreeMap.{is_at, keys}
use Rattle.std.specs.BTreeSet.{contains}
use Rattle.model.specs.declared.FullNodeId.{FullNodeId}
use Rattle.model.specs.FullIds.{full_cmp}
use Rattle.model.specs.World.{at_most_one}
use Rattle.model.proofs.Members.{contains_none, contains_head, contains_later, contains_cases}
use Rattle.model.proofs.Update.AcceptedOrFault.{decide_id}
use Rattle.model.proofs.Closure.{IsDecided}
use Rattle.model.proofs.State.StatePlaces.{value_of}
use Rattle.tree_plan.specs.declared.passes.Arrival.{Arrival}
use Rattle.tree_plan.specs.declared.passes.Named.{Named}
use Rattle.tree_plan.specs.declared.verdicts.Verdict.{Verdict}
use Rattle.tree_plan.specs.declared.verdicts.Found.{Found}
use Rattle.tree_plan.specs.Passes.{at, has}
use Rattle.tree_plan.specs.Verdicts.{Transition, IsFound, Becomes, Verdicts, AreSound, Adds}
use Rattle.tree_plan.proofs.Becoming.{untouched}
use Rattle.tree_plan.proofs.IdMaps.{at_itself, same_key}

-- what was read before one more entry came, and what is read afterwards
some_pushed : {X : Type 0} (es : List (FullNodeId × X)) (e : FullNodeId × X) → IsSome (at (es ++ e ∷ []) e.0)
some_pushed {X} es e = subst IsSome (sym (row_at_pushed es e e.0)) (go (at es e.0))
  where
    go : (o : Option X) → IsSome (option_or o (cond (is_at (full_cmp e.0) e.0) (Some e.1) None))
    go None = ap (λ b. is_some (cond b (Some e.1) None)) (at_itself e.0)
    go (Some x) = refl

none_before : {X : Type 0} (es : List (FullNodeId × X)) (e : FullNodeId × X) (id : FullNodeId) → at (es ++ e ∷ []) id ≡ None → at es id ≡ None
none_before {X} es e id none = go (at es id) (sym (row_at_pushed es e id) ∙ none)
  where
    go : (o : Option X) → option_or o (cond (is_at (full_cmp id) e.0) (Some e.1) None) ≡ None → o ≡ None
    go None h = refl
    go (Some x) h = cc

-- what is in one list after another is in one of them
pub in_either : {A : Type 0} (xs ys : List A) (x : A) → Contains (xs ++ ys) x → Contains xs x ⊎ Contains ys x
in_either [] ys x h = inr h
in_either {A} (y ∷ xs) ys x h = go (contains_cases y x (xs ++ ys) h) (in_either xs ys x)
  where
    go : (y ≡ x) ⊎ Contains (xs ++ ys) x → (Contains (xs ++ ys) x → Contains xs x ⊎ Contains ys x) → Contains (y ∷ xs) x ⊎ Contains ys x
    go (inl e) later = inl (contains_head y x xs e)
    go (inr h) later = ⊎_elim (λ l. inl (contains_later y x xs l)) (λ r. inr r) (later h)

-- what a map has an entry for is among its keys
pub is_among : {X : Type 0} (es : List (FullNodeId × X)) (id : FullNodeId) (v : X) → lookup (is_at (full_cmp id)) es ≡ Some v → Contains (keys_of es) id
is_among [] id v e = cc
is_among (x ∷ es) id v e = go (is_at (full_cmp id) x.0) refl e (is_among es id v)
  where
    go : (b : Bool) → is_at (full_cmp id) x.0 ≡ b → cond b (Some x.1) (lookup (is_at (full_cmp id)) es) ≡ Some v → (lookup (is_at (full_cmp id)) es ≡ Some v → Contains (keys_of es) id) → Contains (keys_of (x ∷ es)) id
    go true same is later = contains_head x.0 id (keys_of es) (sym (same_key id x.0 same))
    go false other is later = contains_later x.0 id (keys_of es) (later is)

-- and what is among its keys has an entry
pub has_entry : {X : Type 0} (es : List (FullNodeId × X)) (id : FullNodeId) → Contains (keys_of es) id → (v : X) × (lookup (is_at (full_cmp id)) es ≡ Some v)
has_entry [] id c = absurd (contains_none id c)
has_entry {X} (e ∷ es) id c = go (is_at (full_cmp id) e.0) refl (contains_cases e.0 id (keys_of es) c) (has_entry es id)
  where
    go : (b : Bool) → is_at (full_cmp id) e.0 ≡ b → (e.0 ≡ id) ⊎ Contains (keys_of es) id → (Contains (keys_of es) id → (v : X) × (lookup (is_at (full_cmp id)) es ≡ Some v)) → (v : X) × (cond b (Some e.1) (lookup (is_at (full_cmp id)) es) ≡ Some v)
    go true same d later = (e.1, refl)
    go false other (inl x) later = absurd (let yes : is_at (full_cmp id) e.0 ≡ true = subst (λ k. is_at (full_cmp id) k ≡ true) (sym x) (at_itself id) in let clash : false ≡ true = sym other ∙ yes in cc)
    go false other (inr d) later = later d

pub has_member : (ks : List FullNodeId) (id : FullNodeId) → Contains ks id → list_any (is_at (full_cmp id)) ks ≡ true
has_member [] id c = absurd (contains_none id c)
has_member (k ∷ ks) id c = go (is_at (full_cmp id) k) refl (contains_cases k id ks c) (has_member ks id)
  where
    go : (b : Bool) → is_at (full_cmp id) k ≡ b → (k ≡ id) ⊎ Contains ks id → (Contains ks id → list_any (is_at (full_cmp id)) ks ≡ true) → (b || list_any (is_at (full_cmp id)) ks) ≡ true
    go true same d later = refl
    go false other (inl x) later = absurd (let yes : is_at (full_cmp id) k ≡ true = subst (λ y. is_at (full_cmp id) y ≡ true) (sym x) (at_itself id) in let clash : false ≡ true = sym other ∙ yes in cc)
    go false other (inr d) later = later d

pub is_member : (ks : List FullNodeId) (id : FullNodeId) → list_any (is_at (full_cmp id)) ks ≡ true → Contains ks id
is_member [] id e = cc
is_member (k ∷ ks) id e = go (is_at (full_cmp id) k) refl e (is_member ks id)
  where
    go : (b : Bool) → is_at (full_cmp id) k ≡ b → (b || list_any (is_at (full_cmp id)) ks) ≡ true → (list_any (is_at (full_cmp id)) ks ≡ true → Contains ks id) → Contains (k ∷ ks) id
    go true same is later = contains_head k id ks (sym (same_key id k same))
    go false other is later = contains_later k id ks (later is)

module _ (s : Transition) where
  -- a sound verdict, or none where the node is as it was
  by_sound : (vs : Verdicts) → AreSound s vs → (id : FullNodeId) → Becomes s id None → Becomes s id (at vs id)
  by_sound vs sound id none = go (at vs id) refl
    where
      go : (o : Option Verdict) → at vs id ≡ o → Becomes s id (at vs id)
      go None e = subst (Becomes s id) (sym e) none
      go (Some v) e = subst (Becomes s id) (sym e) (sound id v (contains_from_row_at vs id v e))

  one_of : (id q : FullNodeId) → Contains (id ∷ []) q → id ≡ q
  one_of id q c = ⊎_elim (λ e. e) (λ h. absurd (contains_none q h)) (contains_cases id q [] c)

  pub adds_none : (vs : Verdicts) (id : FullNodeId) → AreSound s vs → Becomes s id None → Adds s (id ∷ []) vs vs
  adds_none vs id sound none = record {
    sound = sound;
    judged = λ q c. subst (λ x. Becomes s x (at vs x)) (one_of id q c) (by_sound vs sound id none);
    kept = λ q h. h;
  }

  -- a node that was judged
  pub adds_known : (vs : Verdicts) (id : FullNodeId) → AreSound s vs → Becomes s id (at vs id) → Adds s (id ∷ []) vs vs
  adds_known vs id sound there = record {
    sound = sound;
    judged = λ q c. subst (λ x. Becomes s x (at vs x)) (one_of id q c) there;
    kept = λ q h. h;
  }

  -- one more verdict, at the end
  pub adds_one : (a b : Verdicts) (id : FullNodeId) (v : Verdict) → AreSound s a → Becomes s id (Some v) → b ≡ a ++ (id, v) ∷ [] → Adds s (id ∷ []) a b
  adds_one a b id v sound is up = subst (Adds s (id ∷ []) a) (sym up) (record {
    sound = sound_after;
    judged = λ q c. subst (λ x. Becomes s x (at after x)) (one_of id q c) (known id (at after id) refl (some_pushed a (id, v)));
    kept = kept_after;
  })
    where
      after : Verdicts
      after = a ++ (id, v) ∷ []

      sound_after : AreSound s after
      sound_after q x c = ⊎_elim
          (λ before. sound q x before)
          (λ same. subst (λ (e : FullNodeId × Verdict). Becomes s e.0 (Some e.1)) same is)
          (Contains-push_cases a (id, v) (q, x) c)

      known : (q : FullNodeId) (o : Option Verdict) → at after q ≡ o → IsSome o → Becomes s q (at after q)
      known q None e there = cc
      known q (Some x) e there = subst (Becomes s q) (sym e) (sound_after q x (contains_from_row_at after q x e))

      kept_after : (q : FullNodeId) → Becomes s q (at a q) → Becomes s q (at after q)
      kept_after q h = go (at after q) refl
        where
          go : (o : Option Verdict) → at after q ≡ o → Becomes s q (at after q)
          go None e = subst (Becomes s q) (none_before a (id, v) q e ∙ sym e) h
          go (Some x) e = known q (Some x) e refl

  pub adds_nothing : (vs : Verdicts) → AreSound s vs → Adds s [] vs vs
  adds_nothing vs sound = record { sound = sound; judged = λ q c. absurd (contains_none q c); kept = λ q h. h }

  pub adds_both : (xs ys : List FullNodeId) (a b c : Verdicts) → Adds s xs a b → Adds s ys b c → Adds s (xs ++ ys) a c
  adds_both xs ys a b c f g = record {
    sound = g.sound;
    judged = λ q h. ⊎_elim (λ x. g.kept q (f.judged q x)) (λ y. g.judged q y) (in_either xs ys q h);
    kept = λ q h. g.kept q (f.kept q h);
  }

  pub adds_next : (xs zs : List FullNodeId) (id : FullNodeId) (a b c : Verdicts) → zs ≡ xs ++ id ∷ [] → Adds s xs a b → Adds s (id ∷ []) b c → Adds s zs a c
  adds_next xs zs id a b c e f g = subst (λ l. Adds s l a c) (sym e) (adds_both xs (id ∷ []) a b c f g)

  pub adds_shown : (xs : List (Bor FullNodeId)) (x : Bor FullNodeId) (a b c : Verdicts) → Adds s (map deref xs) a b → Adds s (x.now ∷ []) b c → Adds s (map deref (xs ++ x ∷ [])) a c
  adds_shown xs x a b c f g = adds_next (map deref xs) (map deref (xs ++ x ∷ [])) x.now a b c (map-append deref xs (x ∷ [])) f g

  module _ {X : Type 0} (es : List (FullNodeId × X)) where
    -- the next row
    pub adds_row : (xs : List (FullNodeId × X)) → xs ≡ es → (k : ℕ) (d : FullNodeId × X) (a b c : Verdicts) → k < length xs → Adds s (take k (keys_of es)) a b → Adds s ((get_or xs k d).0 ∷ []) b c → Adds s (take (k + 1) (keys_of es)) a c
    adds_row xs all k d a b c inside f g =
        let lt : k < length es = subst (λ (ys : List (FullNodeId × X)). k < length ys) all inside in
        let long = length-keys_of es in
        let here : get_or (keys_of es) k d.0 ≡ (get_or xs k d).0 = key_at es k d lt ∙ ap (λ (ys : List (FullNodeId × X)). (get_or ys k d).0) (sym all) in
        adds_next (take k (keys_of es)) (take (k + 1) (keys_of es)) (get_or xs k d).0 a b c (take_more (keys_of es) k d.0 (omega arith) ∙ ap (λ x. take k (keys_of es) ++ x ∷ []) here) f g

    pub all_rows : (xs : List (FullNodeId × X)) → xs ≡ es → (k : ℕ) (a b : Verdicts) → length xs ≤ k → Adds s (take k (keys_of es)) a b → Adds s (keys_of es) a b
    all_rows xs all k a b fits h = let long = length-keys_of es in let same = ap length all in subst (λ l. Adds s l a b) (take_all k (keys_of es) (omega arith)) h

  -- what is said of the verdicts once they are sorted
  pub settled : (vs rows : Verdicts) → AreSound s vs → ((id : FullNodeId) (v : Verdict) → at rows id ≡ Some v → Contains vs (id, v)) → ((id : FullNodeId) (v : Verdict) → Contains vs (id, v) → IsSome (at rows id))
      → (id : FullNodeId) → Becomes s id (at vs id) → Becomes s id (at rows id)
  settled vs rows sound found each id h = go (at rows id) refl (at vs id) refl
    where
      go : (o : Option Verdict) → at rows id ≡ o → (p : Option Verdict) → at vs id ≡ p → Becomes s id (at rows id)
      go (Some v) e p f = subst (Becomes s id) (sym e) (sound id v (found id v e))
      go None e None f = subst (Becomes s id) (f ∙ sym e) h
      go None e (Some v) f = absurd (no_some (at rows id) e (each id v (contains_from_row_at vs id v f)))

  pub adds_of : (xs ys : List FullNodeId) (a b : Verdicts) → xs ≡ ys → Adds s xs a b → Adds s ys a b
  adds_of xs ys a b e h = subst (λ l. Adds s l a b) e h

  -- verdicts on the nodes of all the maps, and on the told one, say what becomes of each node
  module _ (f : Found) (h : IsFound s f) where
    pub all_judged : (vs : Verdicts) → AreSound s vs
        → ((id : FullNodeId) → Contains (keys_of f.compared.named) id → Becomes s id (at vs id))
        → ((id : FullNodeId) → Contains (keys_of f.compared.entered) id → Becomes s id (at vs id))
        → ((id : FullNodeId) → Contains (keys f.regrafted.moved_in) id → Becomes s id (at vs id))
        → ((id : FullNodeId) → Contains f.removed.gone.keys id → Becomes s id (at vs id))
        → ((id : FullNodeId) → f.told ≡ Some id → Becomes s id (at vs id))
        → (id : FullNodeId) → Becomes s id (at vs id)
    all_judged vs sound named entered moved gone told id = by_named (at f.compared.named id) refl
      where
        by_told : ¬ (has f.removed.gone id) → at f.compared.named id ≡ None → at f.compared.entered id ≡ None → at f.regrafted.moved_in.entries id ≡ None → IsDecided (f.told ≡ Some id) → Becomes s id (at vs id)
        by_told d a b c (inl e) = told id e
        by_told d a b c (inr e) = by_sound vs sound id (untouched s f h id d a b c e)

        by_gone : at f.compared.named id ≡ None → at f.compared.entered id ≡ None → at f.regrafted.moved_in.entries id ≡ None → (t : Bool) → contains full_cmp f.removed.gone id ≡ t → Becomes s id (at vs id)
        by_gone a b c true e = gone id (is_member f.removed.gone.keys id e)
        by_gone a b c false e = by_told (λ yes. let clash : false ≡ true = sym e ∙ yes in cc) a b c (decide_id f.told id)

        by_moved : at f.compared.named id ≡ None → at f.compared.entered id ≡ None → (o : Option FullNodeId) → at f.regrafted.moved_in.entries id ≡ o → Becomes s id (at vs id)
        by_moved a b None e = by_gone a b e (contains full_cmp f.removed.gone id) refl
        by_moved a b (Some g) e = moved id (is_among f.regrafted.moved_in.entries id g e)

        by_entered : at f.compared.named id ≡ None → (o : Option Arrival) → at f.compared.entered id ≡ o → Becomes s id (at vs id)
        by_entered a None e = by_moved a e (at f.regrafted.moved_in.entries id) refl
        by_entered a (Some x) e = entered id (is_among f.compared.entered id x e)

        by_named : (o : Option Named) → at f.compared.named id ≡ o → Becomes s id (at vs id)
        by_named None e = by_entered e (at f.compared.entered id) refl
        by_named (Some n) e = named id (is_among f.compared.named id n e)

    pub named_judged : (v0 v1 : Verdicts) → Adds s (keys_of f.compared.named) v0 v1 → (id : FullNodeId) → IsSome (at f.compared.named id) → Becomes s id (at v1 id)
    named_judged v0 v1 a id there = let n = value_of (at f.compared.named id) there in a.judged id (is_among f.compared.named id n.0 n.1)

    pub all_added : (v0 v1 v2 v3 v4 v5 : Verdicts) → Adds s (keys_of f.compared.named) v0 v1 → Adds s (keys_of f.compared.entered) v1 v2 → Adds s (keys f.regrafted.moved_in) v2 v3
        → Adds s f.removed.gone.keys v3 v4 → Adds s (at_most_one f.told) v4 v5 → (id : FullNodeId) → Becomes s id (at v5 id)
    all_added v0 v1 v2 v3 v4 v5 a b c d e = all_judged v5 e.sound
        (λ id x. e.kept id (d.kept id (c.kept id (b.kept id (a.judged id x)))))
        (λ id x. e.kept id (d.kept id (c.kept id (b.judged id x))))
        (λ id x. e.kept id (d.kept id (c.judged id x)))
        (λ id x. e.kept id (d.judged id x))
        (λ id is. e.judged id (subst (λ o. Contains (at_most_one o) id) (sym is) (contains_head id id [] refl)))
