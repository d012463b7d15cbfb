-- What a search by halves finds among changes that ascend by id.
use Rattle.std.proofs.Common.{◌≡◌, ℕ, ◌+◌, ◌<◌, length, map, get_or, Some, None, Err, sym, ap, ◌∙◌, arith}
use Rattle.std.specs.List.Sorted.{IsStrictlySortedBy, IsBinarySearchResult, IsSortedBy}
use Rattle.std.specs.Map.{keys_of}
use Rattle.std.specs.Ordering.{is_lt, ordering_reverse}
use Rattle.std.specs.declared.cmp.Ordering.TheVariants.{Less, Equal}
use Rattle.std.specs.Cmp.{tied_itself}
use Rattle.std.proofs.lemmas.Cmp.{eq_by_cmp_equiv}
use Rattle.std.proofs.lemmas.List.{get_or-map}
use Rattle.std.proofs.lemmas.List.Sorted.{searchable_from_sorted}
use Rattle.std.proofs.lemmas.Map.Entries.{lookup_from_place, lookup_at_gap, length-keys_of}
use Rattle.std.proofs.lemmas.Map.Keys.{IsDistinct-from_sorted, Less-from_sorted}
use Rattle.std.proofs.lemmas.Option.{slice_get-get_or, slice_get_within, get_or_from_slice_get}
use Rattle.model.specs.declared.FullNodeId.{FullNodeId}
use Rattle.model.specs.FullIds.{full_cmp, full_total, exact_full}
use Rattle.tree_changes.specs.declared.decision.NodeChange.{NodeChange}
use Rattle.tree_changes.specs.Changes.{NodeChanges, change_at}

module _ (es : NodeChanges) (sorted : IsStrictlySortedBy full_cmp (map (λ e. e.0) es)) (id : FullNodeId) where
  pub found : (i : ℕ) (d : FullNodeId × NodeChange) → i < length es → full_cmp (get_or es i d).0 id ≡ Equal → change_at es id ≡ Some (get_or es i d).1
  found i d in_range same =
      lookup_from_place (eq_by_cmp_equiv full_total) es i id (get_or es i d).1 (IsDistinct-from_sorted full_cmp (keys_of es) sorted)
      (slice_get-get_or es i d in_range ∙ ap (λ k. Some (k, (get_or es i d).1)) (exact_full (get_or es i d).0 id same))

  pub found_here : (i : ℕ) (d : FullNodeId × NodeChange) → i < length es → (get_or es i d).0 ≡ id → change_at es id ≡ Some (get_or es i d).1
  found_here i d in_range same = found i d in_range (ap (λ k. full_cmp k id) same ∙ tied_itself full_total id)

  pub below_by : (i j : ℕ) (d : FullNodeId × NodeChange) → i < j → j < length es → full_cmp (get_or es i d).0 (get_or es j d).0 ≡ Less
  below_by i j d less in_range =
      ap (λ k. full_cmp k (get_or es j d).0) (sym (get_or-map (λ e. e.0) es i d d.0 (omega arith)))
      ∙ ap (full_cmp (get_or (map (λ e. e.0) es) i d.0)) (sym (get_or-map (λ e. e.0) es j d d.0 in_range))
      ∙ Less-from_sorted full_cmp (keys_of es) i j d.0 sorted less (let e = length-keys_of es in omega arith)

  pub in_order : IsSortedBy (λ a b. is_lt (full_cmp a.0 b.0)) es
  in_order k d at_least less = ap is_lt (full_total.antisymm (get_or es (k + 1) d).0 (get_or es k d).0 ∙ ap ordering_reverse (below_by k (k + 1) d (omega arith) less))

  pub not_found : (i : ℕ) → IsBinarySearchResult (λ y. full_cmp y.0 id) es (Err i) → change_at es id ≡ None
  not_found i h =
      let parts = h (searchable_from_sorted full_total (λ e. e.0) es id in_order) in
      lookup_at_gap full_total id es i sorted
      (λ j e less at. full_total.antisymm id e.0 ∙ ap ordering_reverse (ap (λ x. full_cmp x.0 id) (sym (get_or_from_slice_get es j e e at)) ∙ parts.0 j e (omega arith) less))
      (λ e at. full_total.antisymm id e.0 ∙ ap ordering_reverse (ap (λ x. full_cmp x.0 id) (sym (get_or_from_slice_get es i e e at)) ∙ parts.1 i e (omega arith) (slice_get_within es i e at)))
