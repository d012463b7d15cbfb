-- What there is in cells once one of them is written, or there is one more.
use Rattle.std.proofs.Common.{◌≡◌, ◌≢◌, ℕ, ◌+◌, ◌<◌, ◌≤◌, ◌^◌, List, [], ◌∷◌, ◌++◌, length, Bool, true, false, true≢false, cond, Option, Some, None, refl, sym, ap, subst, ◌∙◌, arith, slice_get, slice_set, ◌-◌, Result, Ok, Err, length-append, eqb, ◌⊎◌, inl, inr, ⊎_elim}
use Rattle.std.specs.Prelude.{IsSome, is_none, count_by, option_and_then, option_to_list, is_ok, is_err}
use Rattle.std.specs.Vec.{vec_capacity}
use Rattle.std.specs.Map.{lookup}
use Rattle.std.specs.BTreeMap.{is_at}
use Rattle.std.proofs.lemmas.Bool.Decides.{eqb_tells}
use Rattle.std.proofs.lemmas.List.{length-set}
use Rattle.std.proofs.lemmas.List.Sums.{count_by-le-length, sum_by-set, sum_by_push}
use Rattle.std.proofs.lemmas.Option.{slice_get_within, get_or_from_slice_get}
use Rattle.model.specs.declared.FullNodeId.{FullNodeId}
use Rattle.model.specs.FullIds.{full_cmp}
use Rattle.model.proofs.Update.Merges.{slice_get_front, slice_get_push}
use Rattle.tree_store.specs.Cells.{Record}
use Rattle.tree_store.specs.Cells.{CellView}
use Rattle.tree_store.specs.declared.cells.Slots.TheInside.{Inside}
use Rattle.tree_store.specs.Cells.{SlotsView, kept_in, number_of, slot_in, slot_at, record_in, record_at, is_free, HasOwnCells, IsFreeList}
use Rattle.tree_store.specs.CellsKept.{slots_of, IsKept}
use Rattle.tree_store.specs.CellLists.{slot_of, cell_with}
use Rattle.tree_store.proofs.Boxed.{set_here, set_there, last_of}
use Rattle.tree_store.proofs.KeptSlots.{same_id}
use Rattle.tree_store.proofs.WrittenSlots.{at_itself}

not_none : {X : Type 0} (o : Option X) → IsSome o → o ≡ None → ⊥
not_none None h e = cc
not_none (Some x) h e = cc

same_some : {X : Type 0} (o : Option X) (a b : X) → o ≡ Some a → o ≡ Some b → a ≡ b
same_some o a b e f = let j : Some a ≡ Some b = sym e ∙ f in cc

some_is : {X : Type 0} (o : Option X) → IsSome o → is_none o ≡ false
some_is None h = cc
some_is (Some x) h = refl

-- the number that a cell with this slot has
abbrev pub number_if : ℕ → Option (Option Record) → Option ℕ
number_if n None = None
number_if n (Some r) = Some n

number_is : (n : ℕ) (o : Option (Option Record)) (m : ℕ) → number_if n o ≡ Some m → (n ≡ m) × IsSome o
number_is n None m e = cc
number_is n (Some r) m e = (same_some (Some n) n m refl e, refl)

number_some : (n : ℕ) (o : Option (Option Record)) → IsSome o → number_if n o ≡ Some n
number_some n None h = cc
number_some n (Some r) h = refl

-- where a number stays, it is as if it were given again
pub stays : (s : SlotsView) (id : FullNodeId) (n : ℕ) (o : Option (Option Record)) → number_of s id ≡ Some n → IsSome o → (q : FullNodeId) → number_of s q ≡ cond (is_at (full_cmp id) q) (number_if n o) (number_of s q)
stays s id n o at some q = go (is_at (full_cmp id) q) refl
  where
    go : (b : Bool) → is_at (full_cmp id) q ≡ b → number_of s q ≡ cond b (number_if n o) (number_of s q)
    go true t = ap (number_of s) (sym (same_id id q t)) ∙ at ∙ sym (number_some n o some)
    go false t = refl

-- a cell is written: it was free or that of the id, and is that of the id or free
module _ (s : SlotsView) (k : HasOwnCells s) (id : FullNodeId) (n : ℕ) (c0 c : CellView) (numbers : List (FullNodeId × ℕ)) (here : slice_get s.cells n ≡ Some c0) (own_id : c.id ≡ id)
    (up : (q : FullNodeId) → lookup (is_at (full_cmp q)) numbers ≡ cond (is_at (full_cmp id) q) (number_if n (kept_in c)) (number_of s q))
    (before : (number_of s id ≡ Some n) ⊎ ((number_of s id ≡ None) × (kept_in c0 ≡ None))) where
  abbrev after : SlotsView
  after = record { numbers = numbers; cells = slice_set s.cells n c }

  low : n < length s.cells
  low = slice_get_within s.cells n c0 here

  -- another id has another cell
  other : (p : FullNodeId) (m : ℕ) → is_at (full_cmp id) p ≡ false → number_of s p ≡ Some m → m ≢ n
  other p m b e same =
      let o = k.own p n (e ∙ ap Some same) in
      ⊎_elim
      (λ own.
      let i = k.own id n own in
      let one : id ≡ p = sym i.2 ∙ ap (λ (x : CellView). x.id) (same_some (slice_get s.cells n) i.0 o.0 i.1 o.1) ∙ o.2 in
      true≢false (sym (at_itself id) ∙ ap (is_at (full_cmp id)) one ∙ b))
      (λ free. not_none (kept_in o.0) o.3 (ap kept_in (same_some (slice_get s.cells n) o.0 c0 o.1 here) ∙ free.1))
      before

  new_own : (p : FullNodeId) (m : ℕ) → lookup (is_at (full_cmp p)) numbers ≡ Some m → (x : CellView) × (slice_get (slice_set s.cells n c) m ≡ Some x) × (x.id ≡ p) × IsSome (kept_in x)
  new_own p m e = go (is_at (full_cmp id) p) refl (sym (up p) ∙ e)
    where
      go : (b : Bool) → is_at (full_cmp id) p ≡ b → cond b (number_if n (kept_in c)) (number_of s p) ≡ Some m → (x : CellView) × (slice_get (slice_set s.cells n c) m ≡ Some x) × (x.id ≡ p) × IsSome (kept_in x)
      go true t f = let j = number_is n (kept_in c) m f in (c, subst (λ i. slice_get (slice_set s.cells n c) i ≡ Some c) j.0 (set_here s.cells n c low), own_id ∙ same_id id p t, j.1)
      go false t f = let o = k.own p m f in (o.0, set_there s.cells n m c (other p m t f) ∙ o.1, o.2, o.3)

  new_back : (m : ℕ) (x : CellView) → slice_get (slice_set s.cells n c) m ≡ Some x → IsSome (kept_in x) → lookup (is_at (full_cmp x.id)) numbers ≡ Some m
  new_back m x e some = by_place (eqb_tells m n)
    where
      given : x ≡ c → n ≡ m → lookup (is_at (full_cmp x.id)) numbers ≡ Some m
      given is at =
          let one : id ≡ x.id = sym own_id ∙ ap (λ (y : CellView). y.id) (sym is) in
          up x.id ∙ ap (λ b. cond b (number_if n (kept_in c)) (number_of s x.id)) (ap (is_at (full_cmp id)) (sym one) ∙ at_itself id)
          ∙ number_some n (kept_in c) (subst (λ y. IsSome (kept_in y)) is some) ∙ ap Some at

      kept : m ≢ n → number_of s x.id ≡ Some m → (b : Bool) → is_at (full_cmp id) x.id ≡ b → cond b (number_if n (kept_in c)) (number_of s x.id) ≡ Some m
      kept apart is true t =
          let old : number_of s id ≡ Some m = ap (number_of s) (same_id id x.id t) ∙ is in
          absurd (⊎_elim (λ own. apart (same_some (number_of s id) m n old own)) (λ free. let j : None ≡ Some m = sym free.0 ∙ old in cc) before)
      kept apart is false t = is

      by_place : ((eqb m n ≡ true) × (m ≡ n)) ⊎ ((eqb m n ≡ false) × (m ≢ n)) → lookup (is_at (full_cmp x.id)) numbers ≡ Some m
      by_place (inl t) = given (same_some (slice_get (slice_set s.cells n c) m) x c e (subst (λ i. slice_get (slice_set s.cells n c) i ≡ Some c) (sym t.1) (set_here s.cells n c low))) (sym t.1)
      by_place (inr f) =
          let old : slice_get s.cells m ≡ Some x = sym (set_there s.cells n m c f.1) ∙ e in
          up x.id ∙ kept f.1 (k.back m x old some) (is_at (full_cmp id) x.id) refl

  pub cells_written : HasOwnCells (record { numbers = numbers; cells = slice_set s.cells n c })
  cells_written = record { own = new_own; back = new_back }

  -- and other slots are as they were
  pub slots_written : (q : FullNodeId) → slot_at (record { numbers = numbers; cells = slice_set s.cells n c }) q ≡ cond (is_at (full_cmp id) q) (kept_in c) (slot_at s q)
  slots_written q = ap (option_and_then (slot_in after)) (up q) ∙ go (is_at (full_cmp id) q) refl
    where
      written : (o : Option (Option Record)) → kept_in c ≡ o → option_and_then (slot_in after) (number_if n o) ≡ o
      written None e = refl
      written (Some r) e = ap (option_and_then kept_in) (set_here s.cells n c low) ∙ e

      same : (o : Option ℕ) → is_at (full_cmp id) q ≡ false → number_of s q ≡ o → option_and_then (slot_in after) o ≡ option_and_then (slot_in s) o
      same None t e = refl
      same (Some m) t e = ap (option_and_then kept_in) (set_there s.cells n m c (other q m t e))

      go : (b : Bool) → is_at (full_cmp id) q ≡ b → option_and_then (slot_in after) (cond b (number_if n (kept_in c)) (number_of s q)) ≡ cond b (kept_in c) (slot_at s q)
      go true t = written (kept_in c) refl
      go false t = same (number_of s q) t refl

front : {X : Type 0} → (xs ys : List X) (k : ℕ) (x : X) → slice_get xs k ≡ Some x → slice_get (xs ++ ys) k ≡ Some x
front xs ys k x e = slice_get_front xs ys k x e

-- an index of a list with one more value is one of the list, or the last
cases_last : {X : Type 0} → (xs : List X) (x : X) (m : ℕ) (y : X) → slice_get (xs ++ x ∷ []) m ≡ Some y → (slice_get xs m ≡ Some y) ⊎ ((m ≡ length xs) × (y ≡ x))
cases_last xs x m y e = ⊎_elim (λ old. inl old) (λ end. inr (end.0, sym end.1)) (slice_get_push xs x m y e)

-- there is a cell more, of an id that had none
module _ (s : SlotsView) (k : HasOwnCells s) (id : FullNodeId) (c : CellView) (numbers : List (FullNodeId × ℕ)) (own_id : c.id ≡ id) (some : IsSome (kept_in c)) (none : number_of s id ≡ None)
    (up : (q : FullNodeId) → lookup (is_at (full_cmp q)) numbers ≡ cond (is_at (full_cmp id) q) (Some (length s.cells)) (number_of s q)) where
  abbrev more : SlotsView
  more = record { numbers = numbers; cells = s.cells ++ c ∷ [] }

  more_own : (p : FullNodeId) (m : ℕ) → lookup (is_at (full_cmp p)) numbers ≡ Some m → (x : CellView) × (slice_get (s.cells ++ c ∷ []) m ≡ Some x) × (x.id ≡ p) × IsSome (kept_in x)
  more_own p m e = go (is_at (full_cmp id) p) refl (sym (up p) ∙ e)
    where
      go : (b : Bool) → is_at (full_cmp id) p ≡ b → cond b (Some (length s.cells)) (number_of s p) ≡ Some m → (x : CellView) × (slice_get (s.cells ++ c ∷ []) m ≡ Some x) × (x.id ≡ p) × IsSome (kept_in x)
      go true t f = (c, subst (λ i. slice_get (s.cells ++ c ∷ []) i ≡ Some c) (same_some (Some (length s.cells)) (length s.cells) m refl f) (last_of s.cells c), own_id ∙ same_id id p t, some)
      go false t f = let o = k.own p m f in (o.0, front s.cells (c ∷ []) m o.0 o.1, o.2, o.3)

  more_back : (m : ℕ) (x : CellView) → slice_get (s.cells ++ c ∷ []) m ≡ Some x → IsSome (kept_in x) → lookup (is_at (full_cmp x.id)) numbers ≡ Some m
  more_back m x e there = up x.id ∙ ⊎_elim (λ old. kept (k.back m x old there) (is_at (full_cmp id) x.id) refl) (λ end. given end.0 end.1) (cases_last s.cells c m x e)
    where
      kept : number_of s x.id ≡ Some m → (b : Bool) → is_at (full_cmp id) x.id ≡ b → cond b (Some (length s.cells)) (number_of s x.id) ≡ Some m
      kept is true t = let j : None ≡ Some m = sym none ∙ ap (number_of s) (same_id id x.id t) ∙ is in cc
      kept is false t = is

      given : m ≡ length s.cells → x ≡ c → cond (is_at (full_cmp id) x.id) (Some (length s.cells)) (number_of s x.id) ≡ Some m
      given end is =
          let one : id ≡ x.id = sym own_id ∙ ap (λ (y : CellView). y.id) (sym is) in
          ap (λ b. cond b (Some (length s.cells)) (number_of s x.id)) (ap (is_at (full_cmp id)) (sym one) ∙ at_itself id) ∙ ap Some (sym end)

  pub cells_more : HasOwnCells (record { numbers = numbers; cells = s.cells ++ c ∷ [] })
  cells_more = record { own = more_own; back = more_back }

  pub slots_more : (q : FullNodeId) → slot_at (record { numbers = numbers; cells = s.cells ++ c ∷ [] }) q ≡ cond (is_at (full_cmp id) q) (kept_in c) (slot_at s q)
  slots_more q = ap (option_and_then (slot_in more)) (up q) ∙ go (is_at (full_cmp id) q)
    where
      same : (o : Option ℕ) → number_of s q ≡ o → option_and_then (slot_in more) o ≡ option_and_then (slot_in s) o
      same None e = refl
      same (Some m) e = let o = k.own q m e in ap (option_and_then kept_in) (front s.cells (c ∷ []) m o.0 o.1 ∙ sym o.1)

      go : (b : Bool) → option_and_then (slot_in more) (cond b (Some (length s.cells)) (number_of s q)) ≡ cond b (kept_in c) (slot_at s q)
      go true = ap (option_and_then kept_in) (last_of s.cells c)
      go false = same (number_of s q) refl

-- an id without a slot has no cell
pub no_number : (s : SlotsView) → HasOwnCells s → (id : FullNodeId) → slot_at s id ≡ None → number_of s id ≡ None
no_number s k id none = go (number_of s id) refl
  where
    go : (o : Option ℕ) → number_of s id ≡ o → o ≡ None
    go None e = refl
    go (Some n) e =
        let c = k.own id n e in
        absurd (not_none (kept_in c.0) c.3 (sym (ap (option_and_then kept_in) c.1) ∙ sym (ap (option_and_then (slot_in s)) e) ∙ none))

-- an id with a slot has a cell
pub some_number : (s : SlotsView) (id : FullNodeId) → IsSome (slot_at s id) → number_of s id ≡ None → ⊥
some_number s id some none = not_none (slot_at s id) some (ap (option_and_then (slot_in s)) none)

-- what is taken off the end of a list is its last value
pub popped : (free rest : List ℕ) (o : Option ℕ) (n : ℕ) → free ≡ rest ++ option_to_list o → IsSome o → slice_get free (length free - 1) ≡ Some n → free ≡ rest ++ n ∷ []
popped free rest None n is some at = cc
popped free rest (Some m) n is some at =
    let end : length free - 1 ≡ length rest = omega (arith, ap length is, length-append rest (m ∷ [])) in
    is ∙ ap (λ x. rest ++ x ∷ []) (same_some (slice_get free (length rest)) m n (ap (λ l. slice_get l (length rest)) is ∙ last_of rest m) (ap (slice_get free) (sym end) ∙ at))

pub is_err_ok : {X Y : Type 0} (r : Result X Y) → is_ok r ≡ true → is_err r ≡ true → ⊥
is_err_ok (Ok x) h e = cc
is_err_ok (Err x) h e = cc

count_set : {X : Type 0} → (p : X → Bool) (xs : List X) (i : ℕ) (x y : X) → slice_get xs i ≡ Some x → count_by p (slice_set xs i y) + cond (p x) 1 0 ≡ count_by p xs + cond (p y) 1 0
count_set p xs i x y e = ap (λ v. count_by p (slice_set xs i y) + cond (p v) 1 0) (sym (get_or_from_slice_get xs i x x e)) ∙ sum_by-set (λ z. cond (p z) 1 0) xs i y x (slice_get_within xs i x e)

count_by_bits : (n m : ℕ) (b d : Bool) (v w : Bool) → n + cond b 1 0 ≡ m + cond d 1 0 → b ≡ v → d ≡ w → n + cond v 1 0 ≡ m + cond w 1 0
count_by_bits n m b d v w e f g = ap (λ t. n + cond t 1 0) (sym f) ∙ e ∙ ap (λ t. m + cond t 1 0) g

none_free : (c : CellView) → kept_in c ≡ None → is_free c ≡ true
none_free c e = ap is_none e

-- the list of free cells, when a cell is written
module _ (cells : List CellView) (free : List ℕ) (f : IsFreeList cells free) (n : ℕ) (c0 c : CellView) (here : slice_get cells n ≡ Some c0) where
  still_free : (m : ℕ) → m ≢ n → (x : CellView) × (slice_get cells m ≡ Some x) × (kept_in x ≡ None) → (x : CellView) × (slice_get (slice_set cells n c) m ≡ Some x) × (kept_in x ≡ None)
  still_free m apart o = (o.0, set_there cells n m c apart ∙ o.1, o.2)

  not_used : (m : ℕ) → IsSome (kept_in c0) → (x : CellView) × (slice_get cells m ≡ Some x) × (kept_in x ≡ None) → m ≢ n
  not_used m some o is = not_none (kept_in c0) some (ap kept_in (same_some (slice_get cells n) c0 o.0 here (ap (slice_get cells) (sym is) ∙ o.1)) ∙ o.2)

  counted : (b d : Bool) → is_free c0 ≡ b → is_free c ≡ d → count_by is_free (slice_set cells n c) + cond b 1 0 ≡ count_by is_free cells + cond d 1 0
  counted b d before after = count_by_bits _ _ (is_free c0) (is_free c) b d (count_set is_free cells n c0 c here) before after

  -- where a cell has a slot there are fewer free ones than cells
  pub fewer_free : IsSome (kept_in c0) → kept_in c ≡ None → length free < length cells
  fewer_free before after =
      let e = counted false true (some_is (kept_in c0) before) (none_free c after) in
      omega (arith, e, f.all, count_by-le-length is_free (slice_set cells n c), length-set cells n c)

  -- it had a slot and has one
  pub free_kept : IsSome (kept_in c0) → IsSome (kept_in c) → IsFreeList (slice_set cells n c) free
  free_kept before after = record {
    empty = λ j m e. let o = f.empty j m e in still_free m (not_used m before o) o;
    once = f.once;
    all = f.all ∙ (let e = counted false false (some_is (kept_in c0) before) (some_is (kept_in c) after) in omega (arith, e));
  }

  -- it was the last in the list and has a slot
  pub free_taken : (rest : List ℕ) → free ≡ rest ++ n ∷ [] → kept_in c0 ≡ None → IsSome (kept_in c) → IsFreeList (slice_set cells n c) rest
  free_taken rest is before after = record {
    empty = λ j m e.
        let o = f.empty j m (old j m e) in
        still_free m (λ same. let end = f.once j (length rest) n (old j m e ∙ ap Some same) (ap (λ l. slice_get l (length rest)) is ∙ last_of rest n) in absurd (omega (arith, end, slice_get_within rest j m e))) o;
    once = λ i j m d e. f.once i j m (old i m d) (old j m e);
    all =
        let e = counted true false (none_free c0 before) (some_is (kept_in c) after) in
        let l : length free ≡ length rest + 1 = ap length is ∙ length-append rest (n ∷ []) in
        omega (arith, e, l, f.all);
  }
    where
      old : (j m : ℕ) → slice_get rest j ≡ Some m → slice_get free j ≡ Some m
      old j m e = ap (λ l. slice_get l j) is ∙ front rest (n ∷ []) j m e

  -- it had a slot and is the last in the list
  pub free_given : IsSome (kept_in c0) → kept_in c ≡ None → IsFreeList (slice_set cells n c) (free ++ n ∷ [])
  free_given before after = record {
    empty = λ j m e. ⊎_elim
        (λ old. let o = f.empty j m old in still_free m (not_used m before o) o)
        (λ end. (c, ap (slice_get (slice_set cells n c)) end.1 ∙ set_here cells n c (slice_get_within cells n c0 here), after))
        (cases_last free n j m e);
    once = λ i j m d e. ⊎_elim
        (λ old. ⊎_elim (λ older. f.once i j m old older) (λ end. absurd (not_used m before (f.empty i m old) end.1)) (cases_last free n j m e))
        (λ end. ⊎_elim (λ older. absurd (not_used m before (f.empty j m older) end.1)) (λ ending. end.0 ∙ sym ending.0) (cases_last free n j m e))
        (cases_last free n i m d);
    all =
        let e = counted false true (some_is (kept_in c0) before) (none_free c after) in
        omega (arith, e, f.all, length-append free (n ∷ []));
  }

-- and when there is a cell more, with a slot
pub free_more : (cells : List CellView) (free : List ℕ) (c : CellView) → IsFreeList cells free → IsSome (kept_in c) → IsFreeList (cells ++ c ∷ []) free
free_more cells free c f some = record {
  empty = λ j m e. let o = f.empty j m e in (o.0, front cells (c ∷ []) m o.0 o.1, o.2);
  once = f.once;
  all = f.all ∙ sym (sum_by_push (λ x. cond (is_free x) 1 0) cells c ∙ ap (λ b. count_by is_free cells + cond b 1 0) (some_is (kept_in c) some) ∙ omega arith);
}

-- the record in an id's slot becomes another one, in the cell that the id has
pub record IsRenewed (a : Inside) (v : SlotsView) (id : FullNodeId) (cells_now : List CellView) (record_now : Option Record) : Type 0 where
  pub cells : HasOwnCells (record { numbers = a.index; cells = cells_now })
  pub free : IsFreeList cells_now a.free.items
  pub room : length cells_now ≤ vec_capacity a.free
  pub bound : length cells_now < 2 ^ 32
  pub slots : (q : FullNodeId) → slot_at (record { numbers = a.index; cells = cells_now }) q ≡ cond (is_at (full_cmp id) q) (Some record_now) (slot_at v q)

-- the slot of an id by the number of its cell
pub slot_by : (s v : SlotsView) → s ≡ v → (id : FullNodeId) (n : ℕ) → number_of s id ≡ Some n → slot_of s.cells n ≡ slot_at v id
slot_by s v shows id n at = ap (option_and_then (slot_in s)) (sym at) ∙ ap (λ x. slot_at x id) shows

pub renewed : (a : Inside) → IsKept a → (v : SlotsView) → slots_of a ≡ v → (id : FullNodeId) (n : ℕ) → number_of (slots_of a) id ≡ Some n → (f : Option Record → Option Record) (cells_now : List CellView)
    → ((c : CellView) → slice_get a.cells.cells n ≡ Some c → cells_now ≡ slice_set a.cells.cells n (cell_with c.id (Some (f (record_in c.slot))))) → IsRenewed a v id cells_now (f (record_at v id))
renewed a k v shows id n at f cells_now given = subst (λ l. IsRenewed a v id l (f (record_at v id))) (sym (given own.0 own.1)) (record {
  cells = cells_written (slots_of a) k.cells id n own.0 new a.index own.1 own.2 up (inl at);
  free = free_kept a.cells.cells a.free.items k.free n own.0 new own.1 own.3 refl;
  room = subst (λ m. m ≤ vec_capacity a.free) (sym (length-set a.cells.cells n new)) k.room;
  bound = subst (λ m. m < 2 ^ 32) (sym (length-set a.cells.cells n new)) k.bound;
  slots = λ q. slots_written (slots_of a) k.cells id n own.0 new a.index own.1 own.2 up (inl at) q
      ∙ ap (λ x. cond (is_at (full_cmp id) q) x (slot_at (slots_of a) q)) (ap (λ r. Some (f r)) before)
      ∙ ap (λ x. cond (is_at (full_cmp id) q) (Some (f (record_at v id))) (slot_at x q)) shows;
})
  where
    own : (c : CellView) × (slice_get a.cells.cells n ≡ Some c) × (c.id ≡ id) × IsSome (kept_in c)
    own = k.cells.own id n at

    new : CellView
    new = cell_with own.0.id (Some (f (record_in own.0.slot)))

    up : (q : FullNodeId) → number_of (slots_of a) q ≡ cond (is_at (full_cmp id) q) (number_if n (kept_in new)) (number_of (slots_of a) q)
    up = stays (slots_of a) id n (kept_in new) at refl

    here : slot_at (slots_of a) id ≡ kept_in own.0
    here = ap (option_and_then (slot_in (slots_of a))) at ∙ ap (option_and_then kept_in) own.1

    before : record_in (kept_in own.0) ≡ record_at v id
    before = ap record_in (sym here) ∙ ap (λ x. record_at x id) shows
