-- Two worlds have a list of differences.
use Rattle.std.proofs.Common.{◌≡◌, Bool, true, false, List, [], ◌∷◌, ◌++◌, Option, Some, None, ◌⊎◌, inl, inr, refl, sym, subst, map}
use Rattle.std.specs.Prelude.{Contains, IsSome, T, ◌&&◌}
use Rattle.std.specs.Coded.{coded_option, coded×, coded_ℕ}
use Rattle.std.specs.Ordering.{is_lt}
use Rattle.std.specs.FinMap.{entries, entries_sorted, get-entries, is_sorted}
use Rattle.std.specs.FinMap.Entries.{below_all}
use Rattle.std.specs.List.Sorted.{IsStrictlySortedBy}
use Rattle.std.specs.List.{AllByRecursion}
use Rattle.std.specs.declared.cmp.Ordering.{Ordering}
use Rattle.std.specs.declared.cmp.Ordering.TheVariants.{Less, Equal, Greater}
use Rattle.schema.specs.NodeData.{NodeData}
use Rattle.model.specs.declared.FullNodeId.{FullNodeId}
use Rattle.model.specs.FullIds.{full_cmp, coded_full}
use Rattle.model.specs.World.{World, IsNode, data_of}
use Rattle.model.specs.Forest.{place_of}
use Rattle.model.specs.Focus.{IsFocus}
use Rattle.model.specs.Differences.{PlanEvent, Added, Updated, FocusMoved, Removed, IsAscendingListOf, IsInBoth, IsAdded, IsUpdated, IsAloneIf, IsToldForFocus, AreOfFocus, AreDifferences}
use Rattle.model.proofs.Update.AcceptedOrFault.{decide_not, decide_either}
use Rattle.model.proofs.Closure.{decide_both}
use Rattle.model.proofs.Decisions.{same_or_not, data_same_or_not, node_or_not, contained_or_not}
use Rattle.model.proofs.Worlds.Written.{found_key}
use Rattle.model.proofs.Members.{contains_cases, contains_first, contains_later, contains_none}

-- ---- the ids with P among ascending ids

module _ (P : FullNodeId → Type 0) (decided : (id : FullNodeId) → P id ⊎ ¬ (P id)) where
  with_first : (x : FullNodeId) → P x ⊎ ¬ (P x) → List FullNodeId → List FullNodeId
  with_first x (inl p) xs = x ∷ xs
  with_first x (inr p) xs = xs

  chosen : List FullNodeId → List FullNodeId
  chosen [] = []
  chosen (x ∷ xs) = with_first x (decided x) (chosen xs)

  first_has : (x y : FullNodeId) (o : P x ⊎ ¬ (P x)) (xs : List FullNodeId) → Contains (with_first x o xs) y → (P x × (x ≡ y)) ⊎ Contains xs y
  unfolding with_first
  first_has x y (inl p) xs c = elim (contains_cases x y xs c) [ inl e ↦ inl (p, e) | inr g ↦ inr g ]
  first_has x y (inr p) xs c = inr c

  chosen_from : (y : FullNodeId) (xs : List FullNodeId) → Contains (chosen xs) y → P y × Contains xs y
  unfolding chosen
  chosen_from y [] c = absurd (contains_none y c)
  chosen_from y (x ∷ xs) c = elim (first_has x y (decided x) (chosen xs) c) [
    | inl h ↦ (subst P h.1 h.0, subst (Contains (x ∷ xs)) h.1 (contains_first x xs))
    | inr g ↦ let rest = chosen_from y xs g in (rest.0, contains_later x y xs rest.1)
  ]

  first_kept : (x y : FullNodeId) (o : P x ⊎ ¬ (P x)) (xs : List FullNodeId) → P y → (x ≡ y) ⊎ Contains xs y → Contains (with_first x o xs) y
  unfolding with_first
  first_kept x y (inl p) xs q (inl e) = subst (Contains (x ∷ xs)) e (contains_first x xs)
  first_kept x y (inl p) xs q (inr g) = contains_later x y xs g
  first_kept x y (inr p) xs q (inl e) = absurd (p (subst P (sym e) q))
  first_kept x y (inr p) xs q (inr g) = g

  from_chosen : (y : FullNodeId) (xs : List FullNodeId) → P y → Contains xs y → Contains (chosen xs) y
  unfolding chosen
  from_chosen y [] q c = absurd (contains_none y c)
  from_chosen y (x ∷ xs) q c = first_kept x y (decided x) (chosen xs) q (elim (contains_cases x y xs c) [ inl e ↦ inl e | inr g ↦ inr (from_chosen y xs q g) ])

  all_first : (Q : FullNodeId → Type 0) (x : FullNodeId) (o : P x ⊎ ¬ (P x)) (xs : List FullNodeId) → Q x → AllByRecursion Q xs → AllByRecursion Q (with_first x o xs)
  unfolding with_first
  all_first Q x (inl p) xs q h = (q, h)
  all_first Q x (inr p) xs q h = h

  all_chosen : (Q : FullNodeId → Type 0) (xs : List FullNodeId) → AllByRecursion Q xs → AllByRecursion Q (chosen xs)
  unfolding chosen
  all_chosen Q [] h = tt
  all_chosen Q (x ∷ xs) h = all_first Q x (decided x) (chosen xs) h.0 (all_chosen Q xs h.1)

  sorted_first : (x : FullNodeId) (o : P x ⊎ ¬ (P x)) (xs : List FullNodeId) → AllByRecursion (λ y. full_cmp x y ≡ Less) xs → IsStrictlySortedBy full_cmp xs → IsStrictlySortedBy full_cmp (with_first x o xs)
  unfolding with_first IsStrictlySortedBy
  sorted_first x (inl p) xs q h = (q, h)
  sorted_first x (inr p) xs q h = h

  sorted_chosen : (xs : List FullNodeId) → IsStrictlySortedBy full_cmp xs → IsStrictlySortedBy full_cmp (chosen xs)
  unfolding chosen IsStrictlySortedBy
  sorted_chosen [] h = tt
  sorted_chosen (x ∷ xs) h = sorted_first x (decided x) (chosen xs) (all_chosen (λ y. full_cmp x y ≡ Less) xs h.0) (sorted_chosen xs h.1)

  -- where all with P are among these, there is an ascending list of those with P
  pub list_of : (xs : List FullNodeId) → IsStrictlySortedBy full_cmp xs → ((id : FullNodeId) → P id → Contains xs id) → (ids : List FullNodeId) × IsAscendingListOf P ids
  list_of xs sorted within = (chosen xs, record { ascending = sorted_chosen xs sorted; members = λ id. (λ c. (chosen_from id xs c).0, λ p. from_chosen id xs p (within id p)) })

-- ---- the ids of a world

both_true : (a b : Bool) → T (a && b) → T a × T b
both_true true b h = (tt, h)
both_true false b h = absurd h

less : (o : Ordering) → T (is_lt o) → o ≡ Less
less Less h = refl
less Equal h = absurd h
less Greater h = absurd h

below_keys : (k : FullNodeId) (es : List (FullNodeId × NodeData)) → T (below_all full_cmp k es) → AllByRecursion (λ y. full_cmp k y ≡ Less) (map (λ e. e.0) es)
below_keys k [] h = tt
below_keys k (e ∷ es) h = let parts = both_true _ _ h in (less _ parts.0, below_keys k es parts.1)

sorted_keys : (es : List (FullNodeId × NodeData)) → T (is_sorted full_cmp es) → IsStrictlySortedBy full_cmp (map (λ e. e.0) es)
unfolding IsStrictlySortedBy
sorted_keys [] h = tt
sorted_keys (e ∷ es) h = let parts = both_true _ _ h in (below_keys e.0 es parts.0, sorted_keys es parts.1)

abbrev pub ids_of : World → List FullNodeId
ids_of w = map (λ e. e.0) (entries w.nodes)

pub ids_sorted : (w : World) → IsStrictlySortedBy full_cmp (ids_of w)
ids_sorted w = sorted_keys (entries w.nodes) (entries_sorted w.nodes)

pub among_ids : (w : World) (id : FullNodeId) → IsNode w id → Contains (ids_of w) id
among_ids w id h = found_key id (entries w.nodes) (subst IsSome (get-entries w.nodes id) h)

-- ---- the list of differences

alone_exists : (P : Type 0) (id : FullNodeId) → P ⊎ ¬ P → (ids : List FullNodeId) × IsAloneIf P id ids
alone_exists P id (inl p) = (id ∷ [], inl (p, refl))
alone_exists P id (inr n) = ([], inr (n, refl))

module _ (old new : World) where
  in_both_decided : (id : FullNodeId) → IsInBoth old new id ⊎ ¬ (IsInBoth old new id)
  in_both_decided id = decide_both (node_or_not old id) (node_or_not new id)

  told_for_focus_exists : (told : List FullNodeId) (focus : Option FullNodeId) → (ids : List FullNodeId) × IsToldForFocus old new told focus ids
  told_for_focus_exists told None = ([], refl)
  told_for_focus_exists told (Some id) = alone_exists _ id (decide_both (in_both_decided id) (decide_not (contained_or_not id told)))

  pub of_focus_exists : (told : List FullNodeId) (before after : Option FullNodeId) → IsFocus old before → IsFocus new after → (part : List PlanEvent) × AreOfFocus old new told part
  of_focus_exists told before after h g = elim (same_or_not (coded_option coded_full) before after) [
    | inl same ↦ ([], (before, after, h, g, inl (same, refl)))
    | inr apart ↦
        let left = told_for_focus_exists told before in
        let entered = told_for_focus_exists told after in
        (map Updated left.0 ++ map Updated entered.0 ++ FocusMoved before after ∷ [], (before, after, h, g, inr (apart, left.0, entered.0, left.1, entered.1, refl)))
  ]

pub added_exist : (old new : World) → (ids : List FullNodeId) × IsAscendingListOf (IsAdded old new) ids
added_exist old new =
    list_of (IsAdded old new) (λ id. decide_both (node_or_not new id) (decide_not (node_or_not old id))) (ids_of new) (ids_sorted new) (λ id h. among_ids new id h.0)

updated_exist : (old new : World) (root : Option FullNodeId) → (ids : List FullNodeId) × IsAscendingListOf (IsUpdated old new root) ids
updated_exist old new root =
    list_of (IsUpdated old new root)
    (λ id. decide_both (in_both_decided old new id)
    (decide_either (decide_not (data_same_or_not (data_of old id) (data_of new id)))
    (decide_either (decide_not (same_or_not (coded_option (coded× coded_full coded_ℕ)) (place_of old id) (place_of new id))) (same_or_not (coded_option coded_full) root (Some id)))))
    (ids_of old) (ids_sorted old) (λ id h. among_ids old id h.0.0)

pub differences_exist : (old new : World) (root before after : Option FullNodeId) → IsFocus old before → IsFocus new after → (ds : List PlanEvent) × AreDifferences old new root ds
differences_exist old new root before after h g =
    let added = added_exist old new in
    let updated = updated_exist old new root in
    let removed = added_exist new old in
    let part = of_focus_exists old new updated.0 before after h g in (
      map Added added.0 ++ map Updated updated.0 ++ part.0 ++ map Removed removed.0,
      record { added = added.0; updated = updated.0; of_focus = part.0; removed = removed.0; are_added = added.1; are_updated = updated.1; are_of_focus = part.1; are_removed = removed.1; all = refl },
    )
