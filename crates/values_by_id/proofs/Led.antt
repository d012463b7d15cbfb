-- Entries to which a trie leads, and what changes of the list leave of them.
use Rattle.std.proofs.Common.{◌≡◌, ◌≢◌, ℕ, zero, suc, ◌+◌, ◌-◌, ◌<◌, ◌≤◌, List, [], ◌∷◌, ◌++◌, length, get_or, set, take, Bool, true, false, true≢false, cond, Option, Some, None, refl, sym, ap, subst, ◌∙◌, arith, append_assoc, ◌⊎◌, inl, inr, eqb}
use Rattle.std.specs.Prelude.{slice_get, is_some, IsSome, Result, Ok, Err, OnOk, OnErr}
use Rattle.std.specs.Option.{option_map}
use Rattle.std.specs.Map.{set_value, keys_of}
use Rattle.std.specs.BTreeMap.{is_at}
use Rattle.std.specs.Cmp.{eq_by_cmp_equiv}
use Rattle.std.proofs.lemmas.Map.{lookup-set_value}
use Rattle.std.proofs.lemmas.List.{map-append}
use Rattle.std.proofs.lemmas.Bool.{cases_lt}
use Rattle.std.proofs.lemmas.Bool.Decides.{eqb_tells}
use Rattle.std.proofs.lemmas.Option.{same_Some, slice_get_within, slice_get_read, get_or_from_slice_get}
use Rattle.model.specs.declared.FullNodeId.{FullNodeId}
use Rattle.model.specs.FullIds.{full_cmp, full_total}
use Rattle.values_by_id.specs.declared.trie.Cell.{Cell}
use Rattle.values_by_id.specs.Cells.{value_at}
use Rattle.values_by_id.specs.Ways.{found}
use Rattle.values_by_id.specs.Found.{IsFound, IsFoundBelow, HasNo, HasNoBelow, AreApart, id_at}
use Rattle.values_by_id.proofs.Entries.{same_id, at_itself, apart_from, lookup_right, lookup_left}

none_some : {A : Type 0} (x : A) → None ≡ Some x → ⊥
none_some x e = cc

pub not_both : (b : Bool) → b ≡ true → b ≡ false → ⊥
not_both b e f = true≢false (sym e ∙ f)

module _ {X : Type 0} where
  -- no entry has an id exactly where there is no value at it
  pub none_there : (es : List (FullNodeId × X)) (q : FullNodeId) → HasNo es q → value_at es q ≡ None
  none_there [] q h = refl
  none_there (x ∷ es) q h =
      ap (λ b. cond b (Some x.1) (value_at es q)) (apart_from q x.0 (λ e. h 0 x refl (sym e)))
      ∙ none_there es q (λ k e g. h (suc k) e g)

  rest_none : (b : Bool) (v : X) (o : Option X) → cond b (Some v) o ≡ None → o ≡ None
  rest_none true v o h = cc
  rest_none false v o h = h

  head_none : (b : Bool) (v : X) (o : Option X) → cond b (Some v) o ≡ None → b ≡ true → ⊥
  head_none true v o h e = cc
  head_none false v o h e = cc

  pub has_no : (es : List (FullNodeId × X)) (q : FullNodeId) → value_at es q ≡ None → HasNo es q
  has_no [] q h k e g = absurd (none_some e g)
  has_no (x ∷ es) q h zero e g = λ same. head_none (is_at (full_cmp q) x.0) x.1 (value_at es q) h
      (ap (is_at (full_cmp q)) (ap (λ (y : FullNodeId × X). y.0) (same_Some x e g) ∙ same) ∙ at_itself q)
  has_no (x ∷ es) q h (suc k) e g = has_no es q (rest_none (is_at (full_cmp q) x.0) x.1 (value_at es q) h) k e g

  pub apart_when_found : (cells : List Cell) (es : List (FullNodeId × X)) → IsFound cells es → AreApart es
  apart_when_found cells es h i j a b at_i at_j same = same_Some i j (sym (h i a at_i) ∙ ap (found cells) same ∙ h j b at_j)

  apart_rest : (x : FullNodeId × X) (es : List (FullNodeId × X)) → AreApart (x ∷ es) → AreApart es
  apart_rest x es h i j a b at_i at_j same = let s : suc i ≡ suc j = h (suc i) (suc j) a b at_i at_j same in omega (arith, s)

  -- the value at the id of an entry is the entry's
  pub at_index : (es : List (FullNodeId × X)) (k : ℕ) (e : FullNodeId × X) → AreApart es → slice_get es k ≡ Some e → value_at es e.0 ≡ Some e.1
  at_index [] k e h g = absurd (none_some e g)
  at_index (x ∷ es) zero e h g =
      ap (λ (y : FullNodeId × X). value_at (x ∷ es) y.0) (sym (same_Some x e g))
      ∙ ap (λ b. cond b (Some x.1) (value_at es x.0)) (at_itself x.0)
      ∙ ap (λ (y : FullNodeId × X). Some y.1) (same_Some x e g)
  at_index (x ∷ es) (suc k) e h g =
      ap (λ b. cond b (Some x.1) (value_at es e.0)) (apart_from e.0 x.0 (λ same. let s : zero ≡ suc k = h zero (suc k) x e refl g (sym same) in absurd (omega (arith, s))))
      ∙ at_index es k e (apart_rest x es h) g

  -- an entry of the id
  abbrev pub HasAt : List (FullNodeId × X) → FullNodeId → X → Type 0
  HasAt es q v = (k : ℕ) × (slice_get es k ≡ Some (q, v))

  head_is : (x : FullNodeId × X) (q : FullNodeId) (v : X) → q ≡ x.0 → x.1 ≡ v → ◌≡◌ {A = Option (FullNodeId × X)} (Some x) (Some (q, v))
  head_is x q v e f = ap (λ (i : FullNodeId). let p : FullNodeId × X = (i, x.1) in Some p) (sym e) ∙ ap (λ u. let p : FullNodeId × X = (q, u) in Some p) f

  in_by : (b : Bool) (x : FullNodeId × X) (es : List (FullNodeId × X)) (q : FullNodeId) (v : X) → is_at (full_cmp q) x.0 ≡ b → cond b (Some x.1) (value_at es q) ≡ Some v → (value_at es q ≡ Some v → HasAt es q v) → HasAt (x ∷ es) q v
  in_by true x es q v e h f = (zero, head_is x q v (same_id q x.0 e) (same_Some x.1 v h))
  in_by false x es q v e h f = let p = f h in (suc p.0, p.1)

  pub in_list : (es : List (FullNodeId × X)) (q : FullNodeId) (v : X) → value_at es q ≡ Some v → HasAt es q v
  in_list [] q v h = absurd (none_some v h)
  in_list (x ∷ es) q v h = in_by (is_at (full_cmp q) x.0) x es q v refl h (in_list es q v)

  -- one entry more
  pub added : (es : List (FullNodeId × X)) (id : FullNodeId) (v : X) → value_at es id ≡ None → (q : FullNodeId) → value_at (es ++ (id, v) ∷ []) q ≡ cond (is_at (full_cmp id) q) (Some v) (value_at es q)
  added es id v none q = go (is_at (full_cmp id) q) refl
    where
      go : (b : Bool) → is_at (full_cmp id) q ≡ b → value_at (es ++ (id, v) ∷ []) q ≡ cond b (Some v) (value_at es q)
      go true e =
          ap (value_at (es ++ (id, v) ∷ [])) (sym (same_id id q e))
          ∙ lookup_right (is_at (full_cmp id)) es ((id, v) ∷ []) none
          ∙ ap (λ b. cond b (Some v) None) (at_itself id)
      go false e =
          lookup_left (is_at (full_cmp q)) es ((id, v) ∷ [])
          (ap (λ b. cond b (Some v) None) (apart_from q id (λ s. true≢false (sym (at_itself q) ∙ ap (λ i. is_at (full_cmp i) q) s ∙ e))))

  get_added : (es : List (FullNodeId × X)) (x : FullNodeId × X) (k : ℕ) (e : FullNodeId × X) → slice_get (es ++ x ∷ []) k ≡ Some e → (slice_get es k ≡ Some e) ⊎ ((k ≡ length es) × (x ≡ e))
  get_added [] x zero e g = inr (refl, same_Some x e g)
  get_added [] x (suc k) e g = absurd (none_some e g)
  get_added (y ∷ es) x zero e g = inl g
  get_added (y ∷ es) x (suc k) e g = elim (get_added es x k e g) as (λ _. (slice_get es k ≡ Some e) ⊎ ((suc k ≡ suc (length es)) × (x ≡ e))) [ inl a ↦ inl a | inr b ↦ inr (ap suc b.0, b.1) ]

  found_by : (cells : List Cell) (es : List (FullNodeId × X)) (x : FullNodeId × X) (k : ℕ) (e : FullNodeId × X) → IsFound cells es → found cells x.0 ≡ Some (length es) → (slice_get es k ≡ Some e) ⊎ ((k ≡ length es) × (x ≡ e)) → found cells e.0 ≡ Some k
  found_by cells es x k e h own (inl a) = h k e a
  found_by cells es x k e h own (inr b) = ap (λ (y : FullNodeId × X). found cells y.0) (sym b.1) ∙ own ∙ ap Some (sym b.0)

  pub found_added : (cells : List Cell) (es : List (FullNodeId × X)) (x : FullNodeId × X) → IsFound cells es → found cells x.0 ≡ Some (length es) → IsFound cells (es ++ x ∷ [])
  found_added cells es x h own k e g = found_by cells es x k e h own (get_added es x k e g)

  -- other values leave the ids where they are
  pub id_at_is : (es : List (FullNodeId × X)) (k : ℕ) (e : FullNodeId × X) (id : FullNodeId) → slice_get es k ≡ Some e → id_at es k ≡ Some id → e.0 ≡ id
  id_at_is es k e id g h = same_Some e.0 id (ap (option_map (λ (y : FullNodeId × X). y.0)) (sym g) ∙ h)

  has_entry : (o : Option (FullNodeId × X)) (id : FullNodeId) → option_map (λ (y : FullNodeId × X). y.0) o ≡ Some id → (e : FullNodeId × X) × ((o ≡ Some e) × (e.0 ≡ id))
  has_entry None id h = absurd (none_some id h)
  has_entry (Some e) id h = (e, (refl, same_Some e.0 id h))

  pub entry_at : (es : List (FullNodeId × X)) (k : ℕ) (id : FullNodeId) → id_at es k ≡ Some id → (e : FullNodeId × X) × ((slice_get es k ≡ Some e) × (e.0 ≡ id))
  entry_at es k id h = has_entry (slice_get es k) id h

  pub within_entries : (es : List (FullNodeId × X)) (k : ℕ) (id : FullNodeId) → id_at es k ≡ Some id → k < length es
  within_entries es k id h = let e = entry_at es k id h in slice_get_within es k e.0 e.1.0

  -- to set the value of the entry with the number of an id is to set the value at the id
  set_by : (b : Bool) (x : FullNodeId × X) (es new : List (FullNodeId × X)) (w : X) → b ≡ false → x ∷ new ≡ cond b ((x.0, w) ∷ es) (x ∷ new)
  set_by true x es new w e = absurd (true≢false e)
  set_by false x es new w e = refl

  pub set_at_number : (es : List (FullNodeId × X)) (k : ℕ) (id : FullNodeId) (w : X) → AreApart es → id_at es k ≡ Some id → set es k (id, w) ≡ set_value (is_at (full_cmp id)) es w
  set_at_number [] k id w h g = absurd (none_some id g)
  set_at_number (x ∷ es) zero id w h g =
      ap (λ (i : FullNodeId). let p : FullNodeId × X = (i, w) in p ∷ es) (sym (same_Some x.0 id g))
      ∙ sym (ap (λ b. cond b ((x.0, w) ∷ es) (x ∷ set_value (is_at (full_cmp id)) es w)) (ap (is_at (full_cmp id)) (same_Some x.0 id g) ∙ at_itself id))
  set_at_number (x ∷ es) (suc k) id w h g =
      let e = entry_at es k id g in
      ap (λ l. x ∷ l) (set_at_number es k id w (apart_rest x es h) g)
      ∙ set_by (is_at (full_cmp id) x.0) x es (set_value (is_at (full_cmp id)) es w) w
      (apart_from id x.0 (λ same. let s : zero ≡ suc k = h zero (suc k) x e.0 refl e.1.0 (sym same ∙ sym e.1.1) in absurd (omega (arith, s))))

  -- setting a value changes no id
  ids_by : (b : Bool) (x e : FullNodeId × X) (es new : List (FullNodeId × X)) (w : X) (k : ℕ) → slice_get (cond b ((x.0, w) ∷ es) (x ∷ new)) k ≡ Some e → ((j : ℕ) → slice_get new j ≡ Some e → id_at es j ≡ Some e.0) → id_at (x ∷ es) k ≡ Some e.0
  ids_by true x e es new w zero g f = ap Some (ap (λ (y : FullNodeId × X). y.0) (same_Some (x.0, w) e g))
  ids_by true x e es new w (suc k) g f = ap (option_map (λ (y : FullNodeId × X). y.0)) g
  ids_by false x e es new w zero g f = ap Some (ap (λ (y : FullNodeId × X). y.0) (same_Some x e g))
  ids_by false x e es new w (suc k) g f = f k g

  ids_after : (test : FullNodeId → Bool) (es : List (FullNodeId × X)) (w : X) (k : ℕ) (e : FullNodeId × X) → slice_get (set_value test es w) k ≡ Some e → id_at es k ≡ Some e.0
  ids_after test [] w k e g = absurd (none_some e g)
  ids_after test (x ∷ es) w k e g = ids_by (test x.0) x e es (set_value test es w) w k g (λ j. ids_after test es w j e)

  pub found_set : (cells : List Cell) (es : List (FullNodeId × X)) (test : FullNodeId → Bool) (w : X) → IsFound cells es → IsFound cells (set_value test es w)
  found_set cells es test w h k e g =
      let old = entry_at es k e.0 (ids_after test es w k e g) in
      ap (found cells) (sym old.1.1) ∙ h k old.0 old.1.0

-- an entry was removed, and the last one took its place
pub record IsSwapped {X : Type 0} (es new : List (FullNodeId × X)) (n : ℕ) : Type 0 where
  pub within : n < length es
  pub count : length new + 1 ≡ length es
  pub moved : (d : FullNodeId × X) → n + 1 < length es → get_or new n d ≡ get_or es (length es - 1) d
  pub others : (k : ℕ) (d : FullNodeId × X) → k ≢ n → k + 1 < length es → get_or new k d ≡ get_or es k d

module _ {X : Type 0} (es new : List (FullNodeId × X)) (n : ℕ) (swap : IsSwapped es new n) where
  -- where an entry of the new list stood
  abbrev pub Stood : ℕ → FullNodeId × X → Type 0
  Stood j e = (k : ℕ) × ((slice_get es k ≡ Some e) × ((k ≢ n) × (((j ≡ n) × (k + 1 ≡ length es)) ⊎ ((j ≢ n) × (k ≡ j)))))

  stood_by : (j : ℕ) (e : FullNodeId × X) → ((eqb j n ≡ true) × (j ≡ n)) ⊎ ((eqb j n ≡ false) × (j ≢ n)) → slice_get new j ≡ Some e → Stood j e
  stood_by j e (inl (b, is)) g =
      let less : j < length new = slice_get_within new j e g in
      let value : e ≡ get_or es (length es - 1) e = sym (get_or_from_slice_get new j e e g) ∙ ap (λ i. get_or new i e) is ∙ swap.moved e (omega (arith, less, is, swap.count)) in (
        length es - 1,
        (
          slice_get_read es (length es) (length es - 1) e refl (omega (arith, swap.within)) value,
          ((λ same. absurd (omega (arith, less, is, swap.count, same))), inl (is, omega (arith, swap.within))),
        ),
      )
  stood_by j e (inr (b, apart)) g =
      let less : j < length new = slice_get_within new j e g in
      let value : e ≡ get_or es j e = sym (get_or_from_slice_get new j e e g) ∙ swap.others j e apart (omega (arith, less, swap.count)) in
      (j, (slice_get_read es (length es) j e refl (omega (arith, less, swap.count)) value, (apart, inr (apart, refl))))

  pub stood : (j : ℕ) (e : FullNodeId × X) → slice_get new j ≡ Some e → Stood j e
  stood j e g = stood_by j e (eqb_tells j n) g

  -- where an entry that stays stands then
  stands_by : (k : ℕ) (e : FullNodeId × X) → (k + 1 < length es) ⊎ (length es ≤ k + 1) → k ≢ n → slice_get es k ≡ Some e → (j : ℕ) × (slice_get new j ≡ Some e)
  stands_by k e (inl less) apart g =
      (k, slice_get_read new (length new) k e refl (omega (arith, less, swap.count)) (sym (get_or_from_slice_get es k e e g) ∙ sym (swap.others k e apart less)))
  stands_by k e (inr more) apart g =
      let within : k < length es = slice_get_within es k e g in
      let last : length es - 1 ≡ k = omega (arith, within, more) in
      let less : n + 1 < length es = omega (arith, swap.within, within, more, apart) in (
        n,
        slice_get_read new (length new) n e refl (omega (arith, less, swap.count))
            (sym (get_or_from_slice_get es k e e g) ∙ ap (λ i. get_or es i e) (sym last) ∙ sym (swap.moved e less)),
      )

  pub stands : (k : ℕ) (e : FullNodeId × X) → k ≢ n → slice_get es k ≡ Some e → (j : ℕ) × (slice_get new j ≡ Some e)
  stands k e apart g = stands_by k e (cases_lt (k + 1) (length es)) apart g

  pub apart_swapped : AreApart es → AreApart new
  apart_swapped h i j a b at_i at_j same =
      let p = stood i a at_i in
      let q = stood j b at_j in
      one i j p.0 q.0 (slice_get_within new i a at_i) (slice_get_within new j b at_j) p.1.1.1 q.1.1.1 (h p.0 q.0 a b p.1.0 q.1.0 same)
    where
      one : (i j k l : ℕ) → i < length new → j < length new → ((i ≡ n) × (k + 1 ≡ length es)) ⊎ ((i ≢ n) × (k ≡ i)) → ((j ≡ n) × (l + 1 ≡ length es)) ⊎ ((j ≢ n) × (l ≡ j)) → k ≡ l → i ≡ j
      one i j k l a b (inl x) (inl y) e = x.0 ∙ sym y.0
      one i j k l a b (inl x) (inr y) e = absurd (omega (arith, b, x.1, y.1, e, swap.count))
      one i j k l a b (inr x) (inl y) e = absurd (omega (arith, a, x.1, y.1, e, swap.count))
      one i j k l a b (inr x) (inr y) e = sym x.1 ∙ e ∙ y.1

  -- what there is at each id then
  pub removed : AreApart es → AreApart new → (id : FullNodeId) → id_at es n ≡ Some id → (q : FullNodeId) → value_at new q ≡ cond (is_at (full_cmp id) q) None (value_at es q)
  removed apart later id own q = go (is_at (full_cmp id) q) refl
    where
      gone : HasNo new id
      gone j e g same =
          let p = stood j e g in
          let o = entry_at es n id own in
          p.1.1.0 (apart p.0 n e o.0 p.1.0 o.1.0 (same ∙ sym o.1.1))

      none_stays : HasNo es q → HasNo new q
      none_stays h j e g same = let p = stood j e g in h p.0 e p.1.0 same

      same_value : (o : Option X) → value_at es q ≡ o → is_at (full_cmp id) q ≡ false → value_at new q ≡ o
      same_value None h f = none_there new q (none_stays (has_no es q h))
      same_value (Some v) h f =
          let p = in_list es q v h in
          let o = entry_at es n id own in
          let kept : p.0 ≢ n = λ is. true≢false (sym (at_itself q) ∙ ap (λ i. is_at (full_cmp i) q) (ap (λ (y : FullNodeId × X). y.0) (same_Some (q, v) o.0 (sym p.1 ∙ ap (slice_get es) is ∙ o.1.0)) ∙ o.1.1) ∙ f) in
          let s = stands p.0 (q, v) kept p.1 in
          at_index new s.0 (q, v) later s.1

      go : (b : Bool) → is_at (full_cmp id) q ≡ b → value_at new q ≡ cond b None (value_at es q)
      go true e = ap (value_at new) (sym (same_id id q e)) ∙ none_there new id gone
      go false e = same_value (value_at es q) refl e

module _ {X : Type 0} (es : List (FullNodeId × X)) (k : ℕ) (x : FullNodeId × X) (id : FullNodeId) (read : x ≡ get_or es k x) (own : id_at es k ≡ Some id) where
  pub read_at : slice_get es k ≡ Some x
  read_at = slice_get_read es (length es) k x refl (within_entries es k id own) read

  pub read_id : x.0 ≡ id
  read_id = id_at_is es k x id read_at own

  -- the value of the entry with the number of an id
  pub read_value : AreApart es → value_at es id ≡ Some x.1
  read_value apart = ap (value_at es) (sym read_id) ∙ at_index es k x apart read_at

  pub written : AreApart es → (w : X) → set es k (x.0, w) ≡ set_value (is_at (full_cmp id)) es w
  written apart w = ap (λ (i : FullNodeId). let p : FullNodeId × X = (i, w) in set es k p) read_id ∙ set_at_number es k id w apart own

  pub found_written : (cells : List Cell) → IsFound cells es → (w : X) → IsFound cells (set es k (x.0, w))
  found_written cells h w = subst (λ l. IsFound cells l) (sym (written (apart_when_found cells es h) w)) (found_set cells es (is_at (full_cmp id)) w h)

module _ {X : Type 0} (cells : List Cell) (es : List (FullNodeId × X)) (led : IsFound cells es) (id : FullNodeId) where
  only_at : (k j : ℕ) (e : FullNodeId × X) → found cells id ≡ Some k → slice_get es j ≡ Some e → e.0 ≡ id → j ≡ k
  only_at k j e h g same = same_Some j k (sym (led j e g) ∙ ap (found cells) same ∙ h)

  pub no_number : found cells id ≡ None → HasNo es id
  no_number h k e g same = none_some k (sym h ∙ ap (found cells) (sym same) ∙ led k e g)

  pub no_id : (k : ℕ) → found cells id ≡ Some k → id_at es k ≡ None → HasNo es id
  no_id k h none j e g same = none_some e.0 (sym none ∙ ap (id_at es) (sym (only_at k j e h g same)) ∙ ap (option_map (λ (y : FullNodeId × X). y.0)) g)

  pub other_id : (k : ℕ) (i : FullNodeId) → found cells id ≡ Some k → id_at es k ≡ Some i → (i ≡ id → ⊥) → HasNo es id
  other_id k i h own apart j e g same =
      apart (same_Some i e.0 (sym own ∙ ap (id_at es) (sym (only_at k j e h g same)) ∙ ap (option_map (λ (y : FullNodeId × X). y.0)) g) ∙ same)

  pub found_at : (k : ℕ) → id_at es k ≡ Some id → found cells id ≡ Some k
  found_at k own = let e = entry_at es k id own in ap (found cells) (sym e.1.1) ∙ led k e.0 e.1.0

module _ {X : Type 0} (cells new : List Cell) (es : List (FullNodeId × X)) (n : ℕ) (led : IsFoundBelow cells es n) where
  -- the first entries are found still
  pub below_kept : ((q : FullNodeId) (k : ℕ) → found cells q ≡ Some k → found new q ≡ Some k) → IsFoundBelow new es n
  below_kept kept k e less g = kept e.0 k (led k e less g)

  pub below_set : (o : Option ℕ) → ((q : FullNodeId) (k : ℕ) → found cells q ≡ Some k → o ≢ Some k → found new q ≡ Some k) → ((k : ℕ) → k < n → o ≢ Some k) → IsFoundBelow new es n
  below_set o kept none k e less g = kept e.0 k (led k e less g) (none k less)

  pub below_split : (o : Option ℕ) (j : ℕ) (x : FullNodeId × X) → ((q : FullNodeId) (k : ℕ) → found cells q ≡ Some k → (o ≡ Some k → q ≡ x.0) → found new q ≡ Some k) → o ≡ Some j → slice_get es j ≡ Some x → IsFoundBelow new es n
  below_split o j x kept is at_j k e less g =
      kept e.0 k (led k e less g)
      (λ h. ap (λ (y : FullNodeId × X). y.0) (same_Some e x (sym g ∙ ap (slice_get es) (same_Some k j (sym h ∙ is)) ∙ at_j)))

module _ {X : Type 0} (cells : List Cell) (es : List (FullNodeId × X)) where
  pub none_below : IsFoundBelow cells es 0
  none_below k e less g = absurd (omega arith)

  next_by : (n k : ℕ) (e x : FullNodeId × X) → ((eqb k n ≡ true) × (k ≡ n)) ⊎ ((eqb k n ≡ false) × (k ≢ n)) → IsFoundBelow cells es n → slice_get es n ≡ Some x → found cells x.0 ≡ Some n → k < n + 1 → slice_get es k ≡ Some e → found cells e.0 ≡ Some k
  next_by n k e x (inl (b, is)) led at_n own less g =
      ap (λ (y : FullNodeId × X). found cells y.0) (same_Some e x (sym g ∙ ap (slice_get es) is ∙ at_n)) ∙ own ∙ ap Some (sym is)
  next_by n k e x (inr (b, apart)) led at_n own less g = led k e (omega (arith, less, apart)) g

  pub next_below : (n : ℕ) (x : FullNodeId × X) → IsFoundBelow cells es n → slice_get es n ≡ Some x → found cells x.0 ≡ Some n → IsFoundBelow cells es (n + 1)
  next_below n x led at_n own k e less g = next_by n k e x (eqb_tells k n) led at_n own less g

  pub all_below : IsFoundBelow cells es (length es) → IsFound cells es
  all_below led k e g = led k e (slice_get_within es k e g) g

  pub below_all : (n : ℕ) → IsFound cells es → IsFoundBelow cells es n
  below_all n led k e less g = led k e g

-- no entry before one of entries that are apart has its id
pub apart_before : {X : Type 0} (es : List (FullNodeId × X)) (n : ℕ) (x : FullNodeId × X) → AreApart es → slice_get es n ≡ Some x → HasNoBelow es n x.0
apart_before es n x apart at_n k e less g same = let is : k ≡ n = apart k n e x g at_n same in absurd (omega (arith, is, less))

pub none_before : {X : Type 0} (es : List (FullNodeId × X)) (n : ℕ) (id : FullNodeId) → HasNo es id → HasNoBelow es n id
none_before es n id none k e less g = none k e g

-- the ids of one entry more
take_next : {X : Type 0} (es : List X) (k : ℕ) (x : X) → slice_get es k ≡ Some x → take (suc k) es ≡ take k es ++ x ∷ []
take_next [] k x g = absurd (none_some x g)
take_next (y ∷ es) zero x g = ap (λ z. z ∷ []) (same_Some y x g)
take_next (y ∷ es) (suc k) x g = ap (λ l. y ∷ l) (take_next es k x g)

one_more : (k : ℕ) → suc k ≡ k + 1
one_more k = omega arith

pub keys_next : {X : Type 0} (es : List (FullNodeId × X)) (k : ℕ) (x : FullNodeId × X) (before now later : List FullNodeId) → slice_get es k ≡ Some x
    → now ≡ before ++ keys_of (take k es) → later ≡ now ++ x.0 ∷ [] → later ≡ before ++ keys_of (take (k + 1) es)
keys_next {X} es k x before now later g e f =
    f ∙ ap (λ l. l ++ x.0 ∷ []) e ∙ append_assoc before (keys_of (take k es)) (x.0 ∷ [])
    ∙ ap (λ l. before ++ l)
    (sym (map-append (λ (p : FullNodeId × X). p.0) (take k es) (x ∷ []))
    ∙ ap keys_of (sym (take_next es k x g)) ∙ ap (λ n. keys_of (take n es)) (one_more k))

pub some_value : {X : Type 0} (es : List (FullNodeId × X)) (k : ℕ) (id : FullNodeId) → AreApart es → id_at es k ≡ Some id → is_some (value_at es id) ≡ true
some_value es k id apart own = let e = entry_at es k id own in ap is_some (ap (value_at es) (sym e.1.1) ∙ at_index es k e.0 apart e.1.0)

pub set_value_at : {X : Type 0} (es : List (FullNodeId × X)) (id : FullNodeId) (w : X) → IsSome (value_at es id) → (q : FullNodeId) → value_at (set_value (is_at (full_cmp id)) es w) q ≡ cond (is_at (full_cmp id) q) (Some w) (value_at es q)
set_value_at es id w some q = lookup-set_value {eq = λ a b. is_at (full_cmp a) b} (eq_by_cmp_equiv full_total) (is_at (full_cmp id)) (λ x y e. ap (λ i. is_at (full_cmp i) y) (same_id id x e)) q w es some

pub split_by : {X A B : Type 0} (r : Result A B) (cells new : List Cell) (es : List (FullNodeId × X)) (n : ℕ) → IsFoundBelow cells es n → (o : Option ℕ) (j : ℕ) (x : FullNodeId × X)
    → OnOk r ((q : FullNodeId) (k : ℕ) → found cells q ≡ Some k → (o ≡ Some k → q ≡ x.0) → found new q ≡ Some k) → OnErr r (new ≡ cells) → o ≡ Some j → slice_get es j ≡ Some x → IsFoundBelow new es n
split_by (Ok a) cells new es n led o j x others err is at_j = below_split cells new es n led o j x others is at_j
split_by (Err b) cells new es n led o j x others err is at_j = subst (λ l. IsFoundBelow l es n) (sym err) led

-- what std says of `swap_remove`, in lengths of lists
pub swapped_from : {X : Type 0} (es new : List (FullNodeId × X)) (n size left : ℕ) → size ≡ length es → left ≡ length new → n < size → left + 1 ≡ size
    → (((d : FullNodeId × X) → n + 1 < size → get_or new n d ≡ get_or es (size - 1) d) × ((k : ℕ) (d : FullNodeId × X) → k ≢ n → k + 1 < size → get_or new k d ≡ get_or es k d)) → IsSwapped es new n
swapped_from es new n size left e f within count by = record {
  within = omega (arith, within, e);
  count = omega (arith, count, e, f);
  moved = λ d less. by.0 d (omega (arith, less, e)) ∙ ap (λ m. get_or es (m - 1) d) e;
  others = λ k d apart less. by.1 k d apart (omega (arith, less, e));
}

module _ {X : Type 0} (cells first : List Cell) (es new : List (FullNodeId × X)) (n : ℕ) (id : FullNodeId) (swap : IsSwapped es new n) (led : IsFound cells es) (own : id_at es n ≡ Some id) (kept : (q : FullNodeId) (k : ℕ) → found cells q ≡ Some k → (found cells id ≡ Some k → ⊥) → found first q ≡ Some k) where
  found_first : (k : ℕ) (e : FullNodeId × X) → slice_get es k ≡ Some e → k ≢ n → found first e.0 ≡ Some k
  found_first k e g apart = kept e.0 k (led k e g) (λ h. apart (same_Some k n (sym h ∙ found_at cells es led id n own)))

  -- the last entry was removed
  pub removed_last : length new ≤ n → IsFound first new
  removed_last past j e g = by (stood es new n swap j e g)
    where
      by : Stood es new n swap j e → found first e.0 ≡ Some j
      by p = elim p.1.1.1 [
        | inl x ↦ absurd (omega (arith, past, x.0, slice_get_within new j e g))
        | inr x ↦ found_first p.0 e p.1.0 p.1.1.0 ∙ ap Some x.1
      ]

  module _ (x : FullNodeId × X) (read : x ≡ get_or new n x) (less : n < length new) where
    last_at : slice_get es (length es - 1) ≡ Some x
    last_at = slice_get_read es (length es) (length es - 1) x refl (omega (arith, swap.within)) (read ∙ swap.moved x (omega (arith, less, swap.count)))

    pub found_last : found first x.0 ≡ Some (length es - 1)
    found_last = found_first (length es - 1) x last_at (λ same. absurd (omega (arith, less, swap.count, same)))

    pub removed_moved : (later : List Cell) → found later x.0 ≡ Some n → ((q : FullNodeId) (k : ℕ) → found first q ≡ Some k → (found first x.0 ≡ Some k → ⊥) → found later q ≡ Some k) → IsFound later new
    removed_moved later moved others j e g = by (stood es new n swap j e g)
      where
        by : Stood es new n swap j e → found later e.0 ≡ Some j
        by p = elim p.1.1.1 [
          | inl y ↦ ap (λ (z : FullNodeId × X). found later z.0) (same_Some e x (sym g ∙ ap (slice_get new) y.0 ∙ slice_get_read new (length new) n x refl less read)) ∙ moved ∙ ap Some (sym y.0)
          | inr y ↦ others e.0 p.0 (found_first p.0 e p.1.0 p.1.1.0) (λ h. let same : p.0 ≡ length es - 1 = same_Some p.0 (length es - 1) (sym h ∙ found_last) in absurd (omega (arith, same, y.1, swap.count, slice_get_within new j e g))) ∙ ap Some y.1
        ]
