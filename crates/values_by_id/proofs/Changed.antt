-- Rows in which an entry gets another value.
use Rattle.std.proofs.Common.{◌≡◌, ◌≢◌, ℕ, zero, suc, ◌<◌, List, [], ◌∷◌, length, Some, None, Bool, true, false, cond, refl, sym, ap, subst, ◌∙◌, arith}
use Rattle.std.specs.declared.cmp.Ordering.{Ordering}
use Rattle.std.specs.declared.cmp.Ordering.TheVariants.{Less, Equal, Greater}
use Rattle.std.specs.Ordering.{is_eq, is_lt, ordering_reverse}
use Rattle.std.specs.Option.{is_some}
use Rattle.std.specs.BTreeMap.{is_at}
use Rattle.std.specs.Cmp.{tied_itself}
use Rattle.std.specs.Map.{set_value}
use Rattle.std.proofs.lemmas.Map.{keys-set_value}
use Rattle.std.specs.List.Sorted.{IsStrictlySortedBy}
use lib.ListN.{get_or, set}
use mathlib.Core.Bool.{true≢false}
use Rattle.model.specs.declared.FullNodeId.{FullNodeId}
use Rattle.model.specs.FullIds.{full_cmp, full_total, exact_full}
use Rattle.values_by_id.specs.Rows.{Ascends, IsPlace, row_at}
use Rattle.values_by_id.proofs.Places.{at_end, not_here}
use Rattle.values_by_id.proofs.Twice.{is_Equal}

other_order : (o p : Ordering) → o ≡ ordering_reverse p → is_lt p ≡ true → is_eq o ≡ false
other_order o Less r h = ap is_eq r
other_order o Equal r h = absurd (true≢false (sym h))
other_order o Greater r h = absurd (true≢false (sym h))

module _ {X : Type 0} where
  -- where no entry has the id, nothing changes
  pub set_none : (es : List (FullNodeId × X)) (id : FullNodeId) (v : X) → row_at es id ≡ None → set_value (is_at (full_cmp id)) es v ≡ es
  set_none [] id v none = refl
  set_none (e ∷ es) id v none = go (is_at (full_cmp id) e.0) none (set_none es id v)
    where
      go : (b : Bool) → cond b (Some e.1) (row_at es id) ≡ None → (row_at es id ≡ None → set_value (is_at (full_cmp id)) es v ≡ es)
          → cond b ((e.0, v) ∷ es) (e ∷ set_value (is_at (full_cmp id)) es v) ≡ e ∷ es
      go true h later = absurd (true≢false (ap is_some h))
      go false h later = ap (λ l. e ∷ l) (later h)

  -- the first entry with the id is the one at this index
  set_first : (es : List (FullNodeId × X)) (n : ℕ) (id : FullNodeId) (v : X) (d : FullNodeId × X) → n < length es
      → ((k : ℕ) → k < n → is_at (full_cmp id) (get_or es k d).0 ≡ false) → is_at (full_cmp id) (get_or es n d).0 ≡ true → set_value (is_at (full_cmp id)) es v ≡ set es n (id, v)
  set_first [] n id v d inside before here = absurd (omega arith)
  set_first (e ∷ es) zero id v d inside before here =
      ap (λ b. cond b ((e.0, v) ∷ es) (e ∷ set_value (is_at (full_cmp id)) es v)) here
      ∙ ap (λ k. (k, v) ∷ es) (sym (exact_full id e.0 (is_Equal _ here)))
  set_first (e ∷ es) (suc n) id v d inside before here =
      ap (λ b. cond b ((e.0, v) ∷ es) (e ∷ set_value (is_at (full_cmp id)) es v)) (before 0 (omega arith))
      ∙ ap (λ l. e ∷ l) (set_first es n id v d (omega arith) (λ k less. before (suc k) (omega arith)) here)

  module _ (es : List (FullNodeId × X)) (sorted : Ascends es) (id : FullNodeId) (v : X) where
    pub set_at_end : (n : ℕ) → n ≡ length es → IsPlace es id n → set_value (is_at (full_cmp id)) es v ≡ es
    set_at_end n end place = set_none es id v (at_end es sorted id n (omega arith) place)

    module _ (n : ℕ) (x : FullNodeId × X) (bound : n < length es) (at : x ≡ get_or es n x) (place : IsPlace es id n) where
      pub set_elsewhere : x.0 ≢ id → set_value (is_at (full_cmp id)) es v ≡ es
      set_elsewhere other = set_none es id v (not_here es sorted id n x bound at place other)

      pub set_here : x.0 ≡ id → set_value (is_at (full_cmp id)) es v ≡ set es n (id, v)
      set_here same = set_first es n id v x bound
          (λ k less. other_order _ _ (full_total.antisymm id (get_or es k x).0) (place.0 k x (omega arith) less))
          (ap (λ e. is_at (full_cmp id) e.0) (sym at) ∙ ap (λ k. is_at (full_cmp id) k) same ∙ ap is_eq (tied_itself full_total id))

  pub set_ascends : (es : List (FullNodeId × X)) (id : FullNodeId) (v : X) → Ascends es → Ascends (set_value (is_at (full_cmp id)) es v)
  set_ascends es id v sorted = subst (λ ks. IsStrictlySortedBy full_cmp ks) (sym (keys-set_value (is_at (full_cmp id)) es v)) sorted
