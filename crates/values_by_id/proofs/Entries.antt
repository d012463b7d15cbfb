-- Entries of rows of cells.
use Rattle.std.proofs.Common.{◌≡◌, ◌≢◌, ℕ, zero, suc, ◌+◌, ◌<◌, List, [], ◌∷◌, ◌++◌, length, get_or, set, take, Bool, true, false, true≢false, cond, Option, Some, None, refl, sym, ap, ◌∙◌, arith, append_assoc, length-append, ◌⊎◌, inl, inr, eqb, get_or-set_same, get_or-set_other}
use Rattle.std.specs.Prelude.{is_some, IsSome, slice_get, count_by}
use Rattle.std.proofs.lemmas.List.{get_or_default, append-nil, map-append}
use Rattle.std.proofs.lemmas.Option.{same_Some}
use Rattle.std.proofs.lemmas.Bool.Decides.{eqb_tells}
use Rattle.std.proofs.lemmas.Grind.{common_steps}
use Rattle.std.specs.Map.{lookup, keys_of}
use Rattle.std.specs.BTreeMap.{is_at}
use Rattle.std.specs.Cmp.{Equal-is, eq_by_cmp_equiv}
use Rattle.model.specs.declared.FullNodeId.{FullNodeId}
use Rattle.model.specs.FullIds.{full_cmp, full_total, exact_full}
use Rattle.values_by_id.specs.Cells.{Cells, value_in, cell_of, cell_at, with_cell, row_entries, cell_entries, value_at, size, HaveEntriesOf}

abbrev pub id_of : ℕ → ℕ → FullNodeId
id_of tree node = record { tree = tree; node = record { 0 = node } }

pub same_id : (k q : FullNodeId) → is_at (full_cmp k) q ≡ true → k ≡ q
same_id k q b = exact_full k q ((Equal-is (full_cmp k q)).0 b)

pub at_itself : (q : FullNodeId) → is_at (full_cmp q) q ≡ true
at_itself q = (eq_by_cmp_equiv full_total).refl q

apart_by : (k q : FullNodeId) (b : Bool) → is_at (full_cmp k) q ≡ b → (k ≡ q → ⊥) → b ≡ false
apart_by k q true e h = absurd (h (same_id k q e))
apart_by k q false e h = refl

pub apart_from : (k q : FullNodeId) → (k ≡ q → ⊥) → is_at (full_cmp k) q ≡ false
apart_from k q h = apart_by k q (is_at (full_cmp k) q) refl h

pair_eq : (a b c d : ℕ) → a ≡ c → b ≡ d → ◌≡◌ {A = ℕ × ℕ} (a, b) (c, d)
pair_eq a b c d e f = ap (λ x. let p : ℕ × ℕ = (x, b) in p) e ∙ ap (λ x. let p : ℕ × ℕ = (c, x) in p) f

-- ids of the same tree and node are one
same_parts : (k q : FullNodeId) → k.tree ≡ q.tree → k.node.0 ≡ q.node.0 → k ≡ q
same_parts k q t n = ap (λ (p : ℕ × ℕ). id_of p.0 p.1) (pair_eq k.tree k.node.0 q.tree q.node.0 t n)

up : (k : ℕ) → k ≡ k + 0
up k = omega arith

next : (k : ℕ) → suc k ≡ k + 1
next k = omega arith

module _ {X : Type 0} where
  -- an empty cell at the end has no entry
  pub row_pushed : (tree node : ℕ) (row : Cells X) → row_entries tree node (row ++ None ∷ []) ≡ row_entries tree node row
  row_pushed tree node [] = refl
  row_pushed tree node (None ∷ row) = row_pushed tree (suc node) row
  row_pushed tree node (Some v ∷ row) = ap (λ es. (id_of tree node, v) ∷ es) (row_pushed tree (suc node) row)

  -- so one more or one less of them changes no entry
  pub row_pushed_after : (new now old : Cells X) → new ≡ now ++ None ∷ [] → HaveEntriesOf now old → HaveEntriesOf new old
  row_pushed_after new now old e same = λ tree node. ap (row_entries tree node) e ∙ row_pushed tree node now ∙ same tree node

  pub row_popped : (new now old : Cells X) → now ≡ new ++ None ∷ [] → HaveEntriesOf now old → HaveEntriesOf new old
  row_popped new now old e same = λ tree node. sym (row_pushed tree node new) ∙ ap (row_entries tree node) (sym e) ∙ same tree node

  pub count_pushed : (new now : Cells X) → new ≡ now ++ None ∷ [] → count_by is_some new ≡ count_by is_some now
  count_pushed new now e = ap (count_by is_some) e ∙ grind (arith, common_steps)

  -- the cells of a tree have no id of another
  pub row_other : (tree node : ℕ) (row : Cells X) (q : FullNodeId) → (q.tree ≡ tree → ⊥) → value_at (row_entries tree node row) q ≡ None
  row_other tree node [] q h = refl
  row_other tree node (None ∷ row) q h = row_other tree (suc node) row q h
  row_other tree node (Some v ∷ row) q h =
      ap (λ b. cond b (Some v) (value_at (row_entries tree (suc node) row) q)) (apart_from q (id_of tree node) (λ e. h (ap (λ (i : FullNodeId). i.tree) e)))
      ∙ row_other tree (suc node) row q h

  -- and no id below the first
  row_below : (tree node : ℕ) (row : Cells X) (q : FullNodeId) → q.node.0 < node → value_at (row_entries tree node row) q ≡ None
  row_below tree node [] q h = refl
  row_below tree node (None ∷ row) q h = row_below tree (suc node) row q (omega arith)
  row_below tree node (Some v ∷ row) q h =
      ap (λ b. cond b (Some v) (value_at (row_entries tree (suc node) row) q)) (apart_from q (id_of tree node) (λ e. let n : q.node.0 ≡ node = ap (λ (i : FullNodeId). i.node.0) e in absurd (omega arith)))
      ∙ row_below tree (suc node) row q (omega arith)

  -- the value of an id is that in its cell
  pub row_at : (tree node : ℕ) (row : Cells X) (k : ℕ) → value_at (row_entries tree node row) (id_of tree (k + node)) ≡ value_in (slice_get row k)
  row_at tree node [] k = refl
  row_at tree node (None ∷ row) zero = row_below tree (suc node) row (id_of tree (zero + node)) (omega arith)
  row_at tree node (None ∷ row) (suc k) = ap (λ n. value_at (row_entries tree (suc node) row) (id_of tree n)) (omega arith) ∙ row_at tree (suc node) row k
  row_at tree node (Some v ∷ row) zero =
      ap (λ n. value_at (row_entries tree node (Some v ∷ row)) (id_of tree n)) (omega arith)
      ∙ ap (λ b. cond b (Some v) (value_at (row_entries tree (suc node) row) (id_of tree node))) (at_itself (id_of tree node))
  row_at tree node (Some v ∷ row) (suc k) =
      ap (λ b. cond b (Some v) (value_at (row_entries tree (suc node) row) (id_of tree (suc k + node)))) (apart_from (id_of tree (suc k + node)) (id_of tree node) (λ e. let n : suc k + node ≡ node = ap (λ (i : FullNodeId). i.node.0) e in absurd (omega arith)))
      ∙ ap (λ n. value_at (row_entries tree (suc node) row) (id_of tree n)) (omega arith) ∙ row_at tree (suc node) row k

  -- what comes before and doesn't pass is skipped; so is what comes after
  right_by : (b : Bool) (v : X) (o r s : Option X) → cond b (Some v) o ≡ None → (o ≡ None → r ≡ s) → cond b (Some v) r ≡ s
  right_by true v o r s h f = cc
  right_by false v o r s h f = f h

  pub lookup_right : {K : Type 0} (test : K → Bool) (xs ys : List (K × X)) → lookup test xs ≡ None → lookup test (xs ++ ys) ≡ lookup test ys
  lookup_right test [] ys h = refl
  lookup_right test (x ∷ xs) ys h = right_by (test x.0) x.1 (lookup test xs) (lookup test (xs ++ ys)) (lookup test ys) h (lookup_right test xs ys)

  pub lookup_left : {K : Type 0} (test : K → Bool) (xs ys : List (K × X)) → lookup test ys ≡ None → lookup test (xs ++ ys) ≡ lookup test xs
  lookup_left test [] ys h = h
  lookup_left test (x ∷ xs) ys h = ap (cond (test x.0) (Some x.1)) (lookup_left test xs ys h)

  first_by : (b : Bool) (v w : X) (o r : Option X) → cond b (Some v) o ≡ Some w → (o ≡ Some w → r ≡ Some w) → cond b (Some v) r ≡ Some w
  first_by true v w o r h f = h
  first_by false v w o r h f = f h

  pub lookup_first : {K : Type 0} (test : K → Bool) (xs ys : List (K × X)) (v : X) → lookup test xs ≡ Some v → lookup test (xs ++ ys) ≡ Some v
  lookup_first test [] ys v h = cc
  lookup_first test (x ∷ xs) ys v h = first_by (test x.0) x.1 v (lookup test xs) (lookup test (xs ++ ys)) h (lookup_first test xs ys v)

  cells_below : (tree : ℕ) (rows : List (Cells X)) (q : FullNodeId) → q.tree < tree → value_at (cell_entries tree rows) q ≡ None
  cells_below tree [] q h = refl
  cells_below tree (row ∷ rows) q h =
      lookup_right (is_at (full_cmp q)) (row_entries tree 0 row) (cell_entries (suc tree) rows) (row_other tree 0 row q (λ e. absurd (omega arith)))
      ∙ cells_below (suc tree) rows q (omega arith)

  cells_at : (tree : ℕ) (rows : List (Cells X)) (k n : ℕ) → value_at (cell_entries tree rows) (id_of (k + tree) n) ≡ value_in (slice_get (get_or rows k []) n)
  cells_at tree [] k n = refl
  cells_at tree (row ∷ rows) zero n =
      ap (λ t. value_at (cell_entries tree (row ∷ rows)) (id_of t n)) (omega arith)
      ∙ lookup_left (is_at (full_cmp (id_of tree n))) (row_entries tree 0 row) (cell_entries (suc tree) rows) (cells_below (suc tree) rows (id_of tree n) (omega arith))
      ∙ ap (λ m. value_at (row_entries tree 0 row) (id_of tree m)) (omega arith)
      ∙ row_at tree 0 row n
  cells_at tree (row ∷ rows) (suc k) n =
      lookup_right (is_at (full_cmp (id_of (suc k + tree) n))) (row_entries tree 0 row) (cell_entries (suc tree) rows) (row_other tree 0 row (id_of (suc k + tree) n) (λ e. absurd (omega arith)))
      ∙ ap (λ t. value_at (cell_entries (suc tree) rows) (id_of t n)) (omega arith)
      ∙ cells_at (suc tree) rows k n

  -- the value of an id among the entries is that in its cell
  pub at_cell : (rows : List (Cells X)) (id : FullNodeId) → value_at (cell_entries 0 rows) id ≡ cell_at rows id
  at_cell rows id = ap (λ t. value_at (cell_entries 0 rows) (id_of t id.node.0)) (omega arith) ∙ cells_at 0 rows id.tree id.node.0

  module _ (rows : List (Cells X)) (others : List (FullNodeId × X)) (id : FullNodeId) where
    -- with others behind them
    pub at_some : (v : X) → cell_at rows id ≡ Some v → value_at (cell_entries 0 rows ++ others) id ≡ Some v
    at_some v e = lookup_first (is_at (full_cmp id)) (cell_entries 0 rows) others v (at_cell rows id ∙ e)

    pub at_none : cell_at rows id ≡ None → value_at (cell_entries 0 rows ++ others) id ≡ value_at others id
    at_none e = lookup_right (is_at (full_cmp id)) (cell_entries 0 rows) others (at_cell rows id ∙ e)

  -- a cell that is there is within its row, and the row is there
  -- the entries of one cell more
  pub row_taken : (tree node : ℕ) (row : Cells X) (k : ℕ) (x : Option X) → slice_get row k ≡ Some x
      → row_entries tree node (take (suc k) row) ≡ row_entries tree node (take k row) ++ row_entries tree (k + node) (x ∷ [])
  row_taken tree node [] k x h = cc
  row_taken tree node (None ∷ row) zero None h = refl
  row_taken tree node (None ∷ row) zero (Some v) h = cc
  row_taken tree node (Some u ∷ row) zero None h = cc
  row_taken tree node (Some u ∷ row) zero (Some v) h = ap (λ y. (id_of tree node, y) ∷ []) (same_Some u v (same_Some (Some u) (Some v) h)) ∙ ap (λ n. (id_of tree n, v) ∷ []) (omega arith)
  row_taken tree node (None ∷ row) (suc k) x h = row_taken tree (suc node) row k x h ∙ ap (λ n. row_entries tree (suc node) (take k row) ++ row_entries tree n (x ∷ [])) (omega arith)
  row_taken tree node (Some u ∷ row) (suc k) x h = ap (λ es. (id_of tree node, u) ∷ es) (row_taken tree (suc node) row k x h ∙ ap (λ n. row_entries tree (suc node) (take k row) ++ row_entries tree n (x ∷ [])) (omega arith))

  pub cells_taken : (tree : ℕ) (rows : List (Cells X)) (k : ℕ) (row : Cells X) → slice_get rows k ≡ Some row
      → cell_entries tree (take (suc k) rows) ≡ cell_entries tree (take k rows) ++ row_entries (k + tree) 0 row
  cells_taken tree [] k row h = cc
  cells_taken tree (r ∷ rows) zero row h = append-nil (row_entries tree 0 r) ∙ ap (λ x. row_entries tree 0 x) (same_Some r row h) ∙ ap (λ t. row_entries t 0 row) (omega arith)
  cells_taken tree (r ∷ rows) (suc k) row h =
      ap (λ es. row_entries tree 0 r ++ es) (cells_taken (suc tree) rows k row h ∙ ap (λ t. cell_entries (suc tree) (take k rows) ++ row_entries t 0 row) (omega arith))
      ∙ sym (append_assoc (row_entries tree 0 r) (cell_entries (suc tree) (take k rows)) (row_entries (suc k + tree) 0 row))

  -- the id of a cell that has a value, and none of one that has none
  pub id_pushed : (tree k : ℕ) (x : Option X) (now after : List FullNodeId) → is_some x ≡ true → after ≡ now ++ id_of tree k ∷ [] → after ≡ now ++ keys_of (row_entries tree k (x ∷ []))
  id_pushed tree k None now after h e = cc
  id_pushed tree k (Some v) now after h e = e

  pub id_skipped : (tree k : ℕ) (x : Option X) (now after : List FullNodeId) → is_some x ≡ false → after ≡ now → after ≡ now ++ keys_of (row_entries tree k (x ∷ []))
  id_skipped tree k None now after h e = e ∙ sym (append-nil now)
  id_skipped tree k (Some v) now after h e = cc

  -- so are the ids of one more
  pub row_ids : (tree k : ℕ) (row : Cells X) (x : Option X) (before now after : List FullNodeId) → slice_get row k ≡ Some x
      → now ≡ before ++ keys_of (row_entries tree 0 (take k row)) → after ≡ now ++ keys_of (row_entries tree k (x ∷ [])) → after ≡ before ++ keys_of (row_entries tree 0 (take (k + 1) row))
  row_ids tree k row x before now after h e f =
      f ∙ ap (λ l. l ++ keys_of (row_entries tree k (x ∷ []))) e ∙ append_assoc before (keys_of (row_entries tree 0 (take k row))) (keys_of (row_entries tree k (x ∷ [])))
      ∙ ap (λ l. before ++ l)
      (sym (map-append (λ (p : FullNodeId × X). p.0) (row_entries tree 0 (take k row)) (row_entries tree k (x ∷ [])))
      ∙ ap (λ n. keys_of (row_entries tree 0 (take k row) ++ row_entries tree n (x ∷ []))) (up k)
      ∙ ap keys_of (sym (row_taken tree 0 row k x h)) ∙ ap (λ n. keys_of (row_entries tree 0 (take n row))) (next k))

  pub cells_ids : (k : ℕ) (rows : List (Cells X)) (row : Cells X) (now after : List FullNodeId) → slice_get rows k ≡ Some row
      → now ≡ keys_of (cell_entries 0 (take k rows)) → after ≡ now ++ keys_of (row_entries k 0 row) → after ≡ keys_of (cell_entries 0 (take (k + 1) rows))
  cells_ids k rows row now after h e f =
      f ∙ ap (λ l. l ++ keys_of (row_entries k 0 row)) e
      ∙ sym (map-append (λ (p : FullNodeId × X). p.0) (cell_entries 0 (take k rows)) (row_entries k 0 row))
      ∙ ap (λ n. keys_of (cell_entries 0 (take k rows) ++ row_entries n 0 row)) (up k)
      ∙ ap keys_of (sym (cells_taken 0 rows k row h)) ∙ ap (λ n. keys_of (cell_entries 0 (take n rows))) (next k)

  pub within_row : (row : Cells X) (n : ℕ) → IsSome (slice_get row n) → n < length row
  within_row [] n h = cc
  within_row (x ∷ row) zero h = omega arith
  within_row (x ∷ row) (suc n) h = let less = within_row row n h in omega (arith, less)

  pub within_rows : (rows : List (Cells X)) (k n : ℕ) → IsSome (slice_get (get_or rows k []) n) → k < length rows
  within_rows [] k n h = cc
  within_rows (row ∷ rows) zero n h = omega arith
  within_rows (row ∷ rows) (suc k) n h = let less = within_rows rows k n h in omega (arith, less)

  pub filled_there : (o : Option (Option X)) → IsSome (value_in o) → IsSome o
  filled_there None h = cc
  filled_there (Some v) h = refl

  -- the row that is there
  pub row_is : (rows : List (Cells X)) (k : ℕ) (row : Cells X) → row ≡ get_or rows k row → k < length rows → row ≡ get_or rows k []
  row_is rows k row h less = h ∙ get_or_default rows k row [] less

  -- a row with the same entries in the place of another
  pub row_replaced : (tree k : ℕ) (rows : List (Cells X)) (new : Cells X) → k < length rows → HaveEntriesOf new (get_or rows k []) → cell_entries tree (set rows k new) ≡ cell_entries tree rows
  row_replaced tree k [] new less same = absurd (omega arith)
  row_replaced tree zero (row ∷ rows) new less same = ap (λ es. es ++ cell_entries (suc tree) rows) (same tree 0)
  row_replaced tree (suc k) (row ∷ rows) new less same = ap (λ es. row_entries tree 0 row ++ es) (row_replaced (suc tree) k rows new (omega arith) same)

  -- one more row without cells
  pub row_added : (tree : ℕ) (rows : List (Cells X)) → cell_entries tree (rows ++ [] ∷ []) ≡ cell_entries tree rows
  row_added tree [] = refl
  row_added tree (row ∷ rows) = ap (λ es. row_entries tree 0 row ++ es) (row_added (suc tree) rows)

  row_counted : (tree node : ℕ) (row : Cells X) (k : ℕ) (x y : Option X) → slice_get row k ≡ Some x
      → length (row_entries tree node (set row k y)) + size x ≡ length (row_entries tree node row) + size y
  row_counted tree node [] k x y h = cc
  row_counted tree node (None ∷ row) zero None None h = refl
  row_counted tree node (None ∷ row) zero None (Some w) h = omega arith
  row_counted tree node (None ∷ row) zero (Some v) y h = cc
  row_counted tree node (Some u ∷ row) zero None y h = cc
  row_counted tree node (Some u ∷ row) zero (Some v) None h = omega arith
  row_counted tree node (Some u ∷ row) zero (Some v) (Some w) h = refl
  row_counted tree node (None ∷ row) (suc k) x y h = row_counted tree (suc node) row k x y h
  row_counted tree node (Some u ∷ row) (suc k) x y h = let i = row_counted tree (suc node) row k x y h in omega (arith, i)

  cells_counted : (tree : ℕ) (rows : List (Cells X)) (k n : ℕ) (x y : Option X) → slice_get (get_or rows k []) n ≡ Some x
      → length (cell_entries tree (set rows k (set (get_or rows k []) n y))) + size x ≡ length (cell_entries tree rows) + size y
  cells_counted tree [] k n x y h = cc
  cells_counted tree (row ∷ rows) zero n x y h =
      let i = row_counted tree 0 row n x y h in
      omega (arith, i, length-append (row_entries tree 0 row) (cell_entries (suc tree) rows), length-append (row_entries tree 0 (set row n y)) (cell_entries (suc tree) rows))
  cells_counted tree (row ∷ rows) (suc k) n x y h =
      let i = cells_counted (suc tree) rows k n x y h in
      omega (arith, i, length-append (row_entries tree 0 row) (cell_entries (suc tree) rows), length-append (row_entries tree 0 row) (cell_entries (suc tree) (set rows k (set (get_or rows k []) n y))))

  -- so many entries there are after a cell is set
  pub counted : (rows : List (Cells X)) (id : FullNodeId) (x y : Option X) → cell_of rows id ≡ Some x
      → length (cell_entries 0 (with_cell rows id y)) + size x ≡ length (cell_entries 0 rows) + size y
  counted rows id x y h = cells_counted 0 rows id.tree id.node.0 x y h

  get_same : (row : Cells X) (n : ℕ) (x y : Option X) → slice_get row n ≡ Some x → slice_get (set row n y) n ≡ Some y
  get_same [] n x y h = cc
  get_same (z ∷ row) zero x y h = refl
  get_same (z ∷ row) (suc n) x y h = get_same row n x y h

  get_other : (row : Cells X) (n m : ℕ) (y : Option X) → (n ≡ m → ⊥) → slice_get (set row n y) m ≡ slice_get row m
  get_other [] n m y h = refl
  get_other (z ∷ row) zero zero y h = absurd (h refl)
  get_other (z ∷ row) zero (suc m) y h = refl
  get_other (z ∷ row) (suc n) zero y h = refl
  get_other (z ∷ row) (suc n) (suc m) y h = get_other row n m y (λ e. h (ap suc e))

  -- what the cells have after one is set
  pub set_same : (rows : List (Cells X)) (id : FullNodeId) (x y : Option X) → cell_of rows id ≡ Some x → cell_at (with_cell rows id y) id ≡ y
  set_same rows id x y h =
      ap (λ row. value_in (slice_get row id.node.0)) (get_or-set_same rows id.tree (set (get_or rows id.tree []) id.node.0 y) [] (within_rows rows id.tree id.node.0 (ap is_some h)))
      ∙ ap value_in (get_same (get_or rows id.tree []) id.node.0 x y h)

  pub set_apart : (rows : List (Cells X)) (id q : FullNodeId) (x y : Option X) → cell_of rows id ≡ Some x → (id ≡ q → ⊥) → cell_at (with_cell rows id y) q ≡ cell_at rows q
  set_apart rows id q x y h apart = go (eqb_tells id.tree q.tree)
    where
      go : ((eqb id.tree q.tree ≡ true) × (id.tree ≡ q.tree)) ⊎ ((eqb id.tree q.tree ≡ false) × (id.tree ≢ q.tree)) → cell_at (with_cell rows id y) q ≡ cell_at rows q
      go (inl (b, e)) =
          ap (λ t. value_in (slice_get (get_or (with_cell rows id y) t []) q.node.0)) (sym e)
          ∙ ap (λ row. value_in (slice_get row q.node.0)) (get_or-set_same rows id.tree (set (get_or rows id.tree []) id.node.0 y) [] (within_rows rows id.tree id.node.0 (ap is_some h)))
          ∙ ap value_in (get_other (get_or rows id.tree []) id.node.0 q.node.0 y (λ n. apart (same_parts id q e n)))
          ∙ ap (λ t. value_in (slice_get (get_or rows t []) q.node.0)) e
      go (inr (b, e)) = ap (λ row. value_in (slice_get row q.node.0)) (get_or-set_other rows id.tree q.tree (set (get_or rows id.tree []) id.node.0 y) [] (λ f. e (sym f)))

  -- what the cells have after one is set
  pub set_at : (rows : List (Cells X)) (id : FullNodeId) (x y : Option X) → cell_of rows id ≡ Some x → (q : FullNodeId) → cell_at (with_cell rows id y) q ≡ cond (is_at (full_cmp id) q) y (cell_at rows q)
  set_at rows id x y h q = go (is_at (full_cmp id) q) refl
    where
      go : (b : Bool) → is_at (full_cmp id) q ≡ b → cell_at (with_cell rows id y) q ≡ cond b y (cell_at rows q)
      go true e = ap (cell_at (with_cell rows id y)) (sym (same_id id q e)) ∙ set_same rows id x y h
      go false e = set_apart rows id q x y h (λ s. absurd (true≢false (sym (at_itself id) ∙ ap (is_at (full_cmp id)) s ∙ e)))

pub ruleset cell_steps = (within_row, within_rows, row_replaced, row_added, counted, set_at, at_cell)
