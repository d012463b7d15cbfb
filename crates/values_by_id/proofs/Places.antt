-- Where an id stands among entries that ascend.
use Rattle.std.proofs.Common.{◌≡◌, ◌≢◌, ⊎_elim, ℕ, ◌+◌, ◌-◌, ◌<◌, ◌≤◌, List, [], ◌∷◌, ◌++◌, length, Some, None, Bool, true, false, refl, sym, ap, subst, ◌∙◌, arith}
use Rattle.std.specs.declared.cmp.Ordering.{Ordering}
use Rattle.std.specs.declared.cmp.Ordering.TheVariants.{Less, Equal, Greater}
use Rattle.std.specs.Ordering.{is_lt, ordering_reverse}
use Rattle.std.specs.Cmp.{eq_by_cmp_equiv}
use Rattle.std.specs.Map.{keys_of}
use Rattle.std.specs.List.Sorted.{IsStrictlySortedBy, IsPartitionedBy}
use Rattle.std.proofs.lemmas.Bool.{cases_Bool, cases_eq}
use Rattle.std.proofs.lemmas.List.{get_or-map, get_or_default, length_push, get_or_append_left, get_or_push}
use Rattle.std.proofs.lemmas.List.Sorted.{all_adjacent_more}
use Rattle.std.proofs.lemmas.Option.{slice_get_within, slice_get-get_or, get_or_from_slice_get}
use Rattle.std.proofs.lemmas.Map.Keys.{Less-from_sorted, IsDistinct-from_sorted, sorted_from_all_adjacent}
use Rattle.std.proofs.lemmas.Map.Entries.{length-keys_of, lookup_from_place, lookup_at_gap}
use lib.ListN.{get_or}
use mathlib.Core.Bool.{true≢false}
use Rattle.model.specs.declared.FullNodeId.{FullNodeId}
use Rattle.model.specs.FullIds.{full_cmp, full_total, exact_full}
use Rattle.values_by_id.specs.Rows.{Ascends, AllBelow, NoneBelow, IsPlace, row_at}

pub is_Less : (o : Ordering) → is_lt o ≡ true → o ≡ Less
is_Less Less h = refl
is_Less Equal h = absurd (true≢false (sym h))
is_Less Greater h = absurd (true≢false (sym h))

-- neither is below the other
pub tied : (a b : Ordering) → a ≡ ordering_reverse b → is_lt a ≡ false → is_lt b ≡ false → a ≡ Equal
tied a Less r h k = absurd (true≢false k)
tied a Equal r h k = r
tied a Greater r h k = absurd (true≢false (sym (ap is_lt r) ∙ h))

not_below : (o : Ordering) → is_lt o ≡ false → o ≢ Equal → o ≡ Greater
not_below Less h n = absurd (true≢false h)
not_below Equal h n = absurd (n refl)
not_below Greater h n = refl

module _ {X : Type 0} (es : List (FullNodeId × X)) where
  pub key_at : (i : ℕ) (d : FullNodeId × X) → i < length es → get_or (keys_of es) i d.0 ≡ (get_or es i d).0
  key_at i d l = get_or-map (λ e. e.0) es i d d.0 l

  -- neighbours as they are read
  pub neighbours_are : (i : ℕ) (x y : FullNodeId × X) (b : Bool) → 0 < i → i < length es → x ≡ get_or es (i - 1) x → y ≡ get_or es i y → is_lt (full_cmp x.0 y.0) ≡ b
      → (d : FullNodeId × X) → is_lt (full_cmp (get_or es (i - 1) d).0 (get_or es i d).0) ≡ b
  neighbours_are i x y b least bound at at' h d =
      let first : get_or es (i - 1) d ≡ x = get_or_default es (i - 1) d x (omega arith) ∙ sym at in
      let second : get_or es i d ≡ y = get_or_default es i d y bound ∙ sym at' in
      ap (λ u. is_lt (full_cmp u.0 (get_or es i d).0)) first ∙ ap (λ u. is_lt (full_cmp x.0 u.0)) second ∙ h

  -- one more entry that is above the one before it
  pub one_more : (i : ℕ) (x y : FullNodeId × X) → 0 < i → i < length es → x ≡ get_or es (i - 1) x → y ≡ get_or es i y → is_lt (full_cmp x.0 y.0) ≡ true
      → ((k : ℕ) (d : FullNodeId × X) → k + 1 < i → is_lt (full_cmp (get_or es k d).0 (get_or es (k + 1) d).0) ≡ true)
      → (k : ℕ) (d : FullNodeId × X) → k + 1 < i + 1 → is_lt (full_cmp (get_or es k d).0 (get_or es (k + 1) d).0) ≡ true
  one_more i x y least bound at at' h prior = all_adjacent_more es (λ u v. is_lt (full_cmp u.0 v.0) ≡ true) i least prior (neighbours_are i x y true least bound at at' h)

  by_default : FullNodeId × X → ((k : ℕ) (d : FullNodeId × X) → k + 1 < length es → is_lt (full_cmp (get_or es k d).0 (get_or es (k + 1) d).0) ≡ true) → Ascends es
  by_default d h = sorted_from_all_adjacent full_total (keys_of es) d.0 (λ k l.
      let n = length-keys_of es in
      ap (λ x. full_cmp x (get_or (keys_of es) (k + 1) d.0)) (key_at k d (omega arith)) ∙ ap (full_cmp (get_or es k d).0) (key_at (k + 1) d (omega arith)) ∙ is_Less _ (h k d (omega arith)))

no_ids : (ks : List FullNodeId) → ks ≡ [] → IsStrictlySortedBy full_cmp ks
unfolding IsStrictlySortedBy
no_ids [] e = tt
no_ids (k ∷ ks) e = absurd (let n = ap length e in omega arith)

module _ {X : Type 0} where
  pub ascends_empty : (es : List (FullNodeId × X)) → es ≡ [] → Ascends es
  ascends_empty es e = no_ids (keys_of es) (ap keys_of e)

  -- entries of which each is below the next
  pub ascends_from_neighbours : (es : List (FullNodeId × X)) → ((k : ℕ) (d : FullNodeId × X) → k + 1 < length es → is_lt (full_cmp (get_or es k d).0 (get_or es (k + 1) d).0) ≡ true) → Ascends es
  ascends_from_neighbours [] h = ascends_empty [] refl
  ascends_from_neighbours (e ∷ es) h = by_default (e ∷ es) e h

  -- as far as a loop came
  pub ascends_to_end : (es : List (FullNodeId × X)) (i : ℕ) → length es ≤ i → ((k : ℕ) (d : FullNodeId × X) → k + 1 < i → is_lt (full_cmp (get_or es k d).0 (get_or es (k + 1) d).0) ≡ true) → Ascends es
  ascends_to_end es i le h = ascends_from_neighbours es (λ k d l. h k d (omega arith))

module _ {X : Type 0} (es : List (FullNodeId × X)) where
  module _ (sorted : Ascends es) where
    pub below_by : (i j : ℕ) (d : FullNodeId × X) → i < j → j < length es → full_cmp (get_or es i d).0 (get_or es j d).0 ≡ Less
    below_by i j d less l =
        ap (λ k. full_cmp k (get_or es j d).0) (sym (key_at es i d (omega arith)))
        ∙ ap (full_cmp (get_or (keys_of es) i d.0)) (sym (key_at es j d l))
        ∙ Less-from_sorted full_cmp (keys_of es) i j d.0 sorted less (let e = length-keys_of es in omega arith)

    module _ (id : FullNodeId) where
      -- what comes before an entry below the id is below it too
      pub parted : IsPartitionedBy (λ e. is_lt (full_cmp e.0 id)) es
      parted i j d le l h = ⊎_elim
          (λ same. subst (λ n. is_lt (full_cmp (get_or es n d).0 id) ≡ true) (sym same) h)
          (λ ne. ap is_lt (full_total.trans (get_or es i d).0 (get_or es j d).0 id (below_by i j d (omega arith) l) (is_Less _ h)))
          (cases_eq i j)

      -- where the entry before an index is below the id, and where that at it is not
      pub before : (n : ℕ) (x : FullNodeId × X) → 0 < n → n ≤ length es → x ≡ get_or es (n - 1) x → is_lt (full_cmp x.0 id) ≡ true → AllBelow es id n
      before n x least bound at below k d zero l =
          let there : get_or es (n - 1) d ≡ x = get_or_default es (n - 1) d x (omega arith) ∙ sym at in
          parted k (n - 1) d (omega arith) (omega arith) (ap (λ e. is_lt (full_cmp e.0 id)) there ∙ below)

      pub after : (n : ℕ) (x : FullNodeId × X) → n < length es → x ≡ get_or es n x → is_lt (full_cmp x.0 id) ≡ false → NoneBelow es id n
      after n x bound at not_below k d le l = ⊎_elim
          (λ yes. absurd (true≢false (sym (parted n k d le l yes) ∙ ap (λ e. is_lt (full_cmp e.0 id)) (get_or_default es n d x bound ∙ sym at) ∙ not_below)))
          (λ no. no)
          (cases_Bool (is_lt (full_cmp (get_or es k d).0 id)))

      -- and where they are not
      pub not_before : (n : ℕ) (x : FullNodeId × X) → 0 < n → n ≤ length es → x ≡ get_or es (n - 1) x → is_lt (full_cmp x.0 id) ≡ false → ¬ (AllBelow es id n)
      not_before n x least bound at not_below all = true≢false (sym (all (n - 1) x (omega arith) (omega arith)) ∙ ap (λ e. is_lt (full_cmp e.0 id)) (sym at) ∙ not_below)

      pub not_after : (n : ℕ) (x : FullNodeId × X) → n < length es → x ≡ get_or es n x → is_lt (full_cmp x.0 id) ≡ true → ¬ (NoneBelow es id n)
      not_after n x bound at below none = true≢false (sym below ∙ ap (λ e. is_lt (full_cmp e.0 id)) at ∙ none n x (omega arith) bound)

      pub found : (i : ℕ) (d : FullNodeId × X) → i < length es → (get_or es i d).0 ≡ id → row_at es id ≡ Some (get_or es i d).1
      found i d l same =
          lookup_from_place (eq_by_cmp_equiv full_total) es i id (get_or es i d).1 (IsDistinct-from_sorted full_cmp (keys_of es) sorted)
          (slice_get-get_or es i d l ∙ ap (λ k. Some (k, (get_or es i d).1)) same)

      pub not_found : (n : ℕ) → IsPlace es id n → ((n < length es) → (d : FullNodeId × X) → (get_or es n d).0 ≢ id) → row_at es id ≡ None
      not_found n place other =
          lookup_at_gap full_total id es n sorted
          (λ j e less at. full_total.antisymm id e.0 ∙ ap ordering_reverse (ap (λ x. full_cmp x.0 id) (sym (get_or_from_slice_get es j e e at)) ∙ is_Less _ (place.0 j e (omega arith) less)))
          (λ e at.
          let within = slice_get_within es n e at in
          let here = get_or_from_slice_get es n e e at in
          full_total.antisymm id e.0 ∙ ap ordering_reverse (ap (λ x. full_cmp x.0 id) (sym here) ∙ not_below _ (place.1 n e (omega arith) within) (λ same. other within e (exact_full _ _ same))))

      pub at_end : (n : ℕ) → length es ≤ n → IsPlace es id n → row_at es id ≡ None
      at_end n end place = not_found n place (λ l. absurd (omega arith))

      module _ (n : ℕ) (x : FullNodeId × X) (bound : n < length es) (at : x ≡ get_or es n x) where
        pub found_here : x.0 ≡ id → row_at es id ≡ Some x.1
        found_here same = found n x bound (ap (λ e. e.0) (sym at) ∙ same) ∙ ap (λ e. Some e.1) (sym at)

        pub not_here : IsPlace es id n → x.0 ≢ id → row_at es id ≡ None
        not_here place other = not_found n place (λ l d same. other (ap (λ e. e.0) (at ∙ get_or_default es n x d bound) ∙ same))

    -- one more entry, above all
    pub ascends_pushed : (id : FullNodeId) (v : X) → AllBelow es id (length es) → Ascends (es ++ (id, v) ∷ [])
    ascends_pushed id v below = ascends_from_neighbours (es ++ (id, v) ∷ []) (λ k d l.
        let long = length_push es (id, v) in
        let p : FullNodeId × X = (id, v) in
        let first = get_or_append_left es (p ∷ []) d k (omega arith) in
        ⊎_elim
        (λ end.
        let second = get_or_push es p d (k + 1) (sym end) in
        ap (λ u. is_lt (full_cmp u.0 (get_or (es ++ p ∷ []) (k + 1) d).0)) first ∙ ap (λ u. is_lt (full_cmp (get_or es k d).0 u.0)) second ∙ below k d (omega arith) (omega arith))
        (λ inside.
        let second = get_or_append_left es (p ∷ []) d (k + 1) (omega arith) in
        ap (λ u. is_lt (full_cmp u.0 (get_or (es ++ p ∷ []) (k + 1) d).0)) first ∙ ap (λ u. is_lt (full_cmp (get_or es k d).0 u.0)) second ∙ ap is_lt (below_by k (k + 1) d (omega arith) (omega arith)))
        (cases_eq (k + 1) (length es)))

-- where one more entry is above all, those before it ascend and are below its id
module _ {X : Type 0} (es : List (FullNodeId × X)) (id : FullNodeId) (v : X) (sorted : Ascends (es ++ (id, v) ∷ [])) where
  abbrev p : FullNodeId × X
  p = (id, v)

  pub front_ascends : Ascends es
  front_ascends = ascends_from_neighbours es (λ k d l.
      let long = length_push es p in
      let first = get_or_append_left es (p ∷ []) d k (omega arith) in
      let second = get_or_append_left es (p ∷ []) d (k + 1) (omega arith) in
      ap (λ u. is_lt (full_cmp u.0 (get_or es (k + 1) d).0)) (sym first) ∙ ap (λ u. is_lt (full_cmp (get_or (es ++ p ∷ []) k d).0 u.0)) (sym second) ∙ ap is_lt (below_by (es ++ p ∷ []) sorted k (k + 1) d (omega arith) (omega arith)))

  pub front_below : AllBelow es id (length es)
  front_below k d zero l =
      let long = length_push es p in
      let first = get_or_append_left es (p ∷ []) d k l in
      let last = get_or_push es p d (length es) refl in
      ap (λ u. is_lt (full_cmp u.0 id)) (sym first) ∙ ap (λ u. is_lt (full_cmp (get_or (es ++ p ∷ []) k d).0 u.0)) (sym last) ∙ ap is_lt (below_by (es ++ p ∷ []) sorted k (length es) d l (omega arith))
