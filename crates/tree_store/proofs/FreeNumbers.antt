-- The numbers of the free cells, found one after another.
use Rattle.std.proofs.Common.{◌≡◌, ◌<◌, ◌+◌, ℕ, List, [], ◌∷◌, ◌++◌, Option, Some, None, Bool, true, false, cond, length, take, refl, sym, ap, subst, ◌∙◌, slice_get, arith, get_or, length-append, ⊎_elim}
use Rattle.std.specs.Prelude.{IfSome, is_none, count_by}
use Rattle.std.proofs.lemmas.List.Sums.{count_by_more_no, count_by_more_yes}
use Rattle.std.proofs.lemmas.Option.{get_or_from_slice_get, slice_get_within, slice_get-get_or}
use Rattle.model.proofs.Update.Merges.{slice_get_push}
use Rattle.model.specs.declared.FullNodeId.{FullNodeId}
use Rattle.tree_store.specs.CellLists.{cell_with}
use Rattle.tree_store.specs.Cells.{CellView, kept_in, is_free, IsFreeList}

-- these are the numbers of the free cells below a number
pub record AreFreeBelow (cells : List CellView) (free : List ℕ) (i : ℕ) : Type 0 where
  pub empty : (k n : ℕ) → slice_get free k ≡ Some n → (c : CellView) × (slice_get cells n ≡ Some c) × (kept_in c ≡ None)
  pub once : (j k n : ℕ) → slice_get free j ≡ Some n → slice_get free k ≡ Some n → j ≡ k
  pub below : (k n : ℕ) → slice_get free k ≡ Some n → n < i
  pub all : length free ≡ count_by is_free (take i cells)

pub none_yet : (cells : List CellView) (free : List ℕ) → free ≡ [] → AreFreeBelow cells free 0
none_yet cells free is = subst (λ l. AreFreeBelow cells l 0) (sym is) (record { empty = λ k n e. cc; once = λ j k n e f. cc; below = λ k n e. cc; all = refl })

module _ (cells : List CellView) (free : List ℕ) (i : ℕ) (f : AreFreeBelow cells free i) (c : CellView) (at : slice_get cells i ≡ Some c) where
  low : i < length cells
  low = slice_get_within cells i c at

  pub next_used : is_none (kept_in c) ≡ false → AreFreeBelow cells free (i + 1)
  next_used used = record {
    empty = f.empty;
    once = f.once;
    below = λ k n e. let b = f.below k n e in omega (arith, b);
    all = f.all ∙ sym (count_by_more_no is_free cells i c low (ap is_free (get_or_from_slice_get cells i c c at) ∙ used));
  }

  pub next_free : is_none (kept_in c) ≡ true → AreFreeBelow cells (free ++ i ∷ []) (i + 1)
  next_free is = record {
    empty = λ k n e. ⊎_elim (λ old. f.empty k n old) (λ end. (c, ap (slice_get cells) (sym end.1) ∙ at, none_by (kept_in c) is)) (slice_get_push free i k n e);
    once = λ j k n d e. ⊎_elim
        (λ old. ⊎_elim (λ older. f.once j k n old older) (λ end. let b = f.below j n old in absurd (omega (arith, b, end.1))) (slice_get_push free i k n e))
        (λ end. ⊎_elim (λ older. let b = f.below k n older in absurd (omega (arith, b, end.1))) (λ ending. end.0 ∙ sym ending.0) (slice_get_push free i k n e))
        (slice_get_push free i j n d);
    below = λ k n e. ⊎_elim (λ old. let b = f.below k n old in omega (arith, b)) (λ end. omega (arith, end.1)) (slice_get_push free i k n e);
    all = let m = count_by_more_yes is_free cells i c low (ap is_free (get_or_from_slice_get cells i c c at) ∙ is) in omega (arith, f.all, m, length-append free (i ∷ []));
  }
    where
      none_by : {X : Type 0} → (o : Option X) → is_none o ≡ true → o ≡ None
      none_by None e = refl
      none_by (Some x) e = cc

pub next_number : (cells : List CellView) (free later : List ℕ) (i : ℕ) (b : Bool) → AreFreeBelow cells free i → i < length cells → IfSome (slice_get cells i) (λ c. b ≡ is_none c.slot) → later ≡ cond b (free ++ i ∷ []) free → AreFreeBelow cells later (i + 1)
next_number cells free later i b f low test is = go (slice_get cells i) refl test
  where
    go : (o : Option CellView) → slice_get cells i ≡ o → IfSome o (λ c. b ≡ is_none c.slot) → AreFreeBelow cells later (i + 1)
    go None e t = absurd (outside (cell_with none_id None) e)
      where
        outside : CellView → slice_get cells i ≡ None → ⊥
        outside d e = let j : Some (get_or cells i d) ≡ None = sym (slice_get-get_or cells i d low) ∙ e in cc

        none_id : FullNodeId
        none_id = record { tree = 0; node = record { 0 = 0 } }
    go (Some c) e t = by b t is
      where
        by : (x : Bool) → x ≡ is_none c.slot → later ≡ cond x (free ++ i ∷ []) free → AreFreeBelow cells later (i + 1)
        by true u v = subst (λ l. AreFreeBelow cells l (i + 1)) (sym v) (next_free cells free i f c e (sym u))
        by false u v = subst (λ l. AreFreeBelow cells l (i + 1)) (sym v) (next_used cells free i f c e (sym u))

pub all_free : (cells : List CellView) (free : List ℕ) (i : ℕ) → take i cells ≡ cells → AreFreeBelow cells free i → IsFreeList cells free
all_free cells free i whole f = record { empty = f.empty; once = f.once; all = f.all ∙ ap (count_by is_free) whole }
