-- What an index keeps after a change.
use Rattle.std.proofs.Common.{◌≡◌, ℕ, zero, suc, ◌+◌, List, [], ◌∷◌, ◌++◌, length, Bool, true, false, cond, Option, Some, None, refl, sym, ap, subst, ◌∙◌, arith, length-append, get_or, set, Bor}
use Rattle.std.specs.Prelude.{is_some, IsSome, OnSome, option_copied, slice_get, if◌then◌else◌}
use Rattle.std.specs.Map.{lookup, set_value}
use Rattle.std.proofs.lemmas.Map.{length-set_value}
use Rattle.std.specs.BTreeMap.{is_at}
use Rattle.model.specs.declared.FullNodeId.{FullNodeId}
use Rattle.model.specs.FullIds.{full_cmp}
use Rattle.values_by_id.specs.Cells.{value_in, cell_of, cell_at, with_cell, row_entries, cell_entries, value_at}
use Rattle.values_by_id.proofs.Entries.{id_of, same_id, at_itself, apart_from, row_at, row_other, at_cell, at_some, at_none}

plus_zero : (n : ℕ) → zero + n ≡ n
plus_zero n = omega arith

plus_suc : (k n : ℕ) → k + suc n ≡ suc k + n
plus_suc k n = omega arith

zero_plus : (n : ℕ) → n + 0 ≡ n
zero_plus n = omega arith

none_from_false : {A : Type 0} (o : Option A) → is_some o ≡ false → o ≡ None
none_from_false None e = refl
none_from_false (Some x) e = cc

pub copied_none : {A : Type 0} (o : Option (Bor A)) → is_some o ≡ false → option_copied o ≡ None
copied_none None e = refl
copied_none (Some x) e = cc

pub on_some : {A : Type 0} (o : Option A) (P : Type 0) → P → OnSome o P
on_some None P p = tt
on_some (Some x) P p = p

module _ {X : Type 0} where
  -- the first of two values that is there
  abbrev pub first_of : Option X → Option X → Option X
  first_of (Some v) o = Some v
  first_of None o = o

  by_cell : (rows : List (List (Option X))) (others : List (FullNodeId × X)) (q : FullNodeId) (o : Option X) → cell_at rows q ≡ o → value_at (cell_entries 0 rows ++ others) q ≡ first_of o (value_at others q)
  by_cell rows others q (Some v) e = at_some rows others q v e
  by_cell rows others q None e = at_none rows others q e

  pub at_both : (rows : List (List (Option X))) (others : List (FullNodeId × X)) (q : FullNodeId) → value_at (cell_entries 0 rows ++ others) q ≡ first_of (cell_at rows q) (value_at others q)
  at_both rows others q = by_cell rows others q (cell_at rows q) refl

  -- cells with the same entries have the same values
  pub same_cells : (new rows : List (List (Option X))) → cell_entries 0 new ≡ cell_entries 0 rows → (q : FullNodeId) → cell_at new q ≡ cell_at rows q
  same_cells new rows e q = sym (at_cell new q) ∙ ap (λ es. value_at es q) e ∙ at_cell rows q

  pub nothing_there : (others : List (FullNodeId × X)) (id : FullNodeId) → is_some (value_at others id) ≡ false → value_at others id ≡ None
  nothing_there others id e = none_from_false (value_at others id) e

  -- an id without a cell has no value in one
  by_no_cell : (o : Option (Option X)) → is_some o ≡ false → value_in o ≡ None
  by_no_cell None e = refl
  by_no_cell (Some o) e = cc

  pub no_cell : (rows : List (List (Option X))) (id : FullNodeId) → is_some (cell_of rows id) ≡ false → cell_at rows id ≡ None
  no_cell rows id e = by_no_cell (cell_of rows id) e

  -- what is nothing at an id stays so
  pub stays : (f : FullNodeId → Option X) (id : FullNodeId) → f id ≡ None → (q : FullNodeId) → f q ≡ cond (is_at (full_cmp id) q) None (f q)
  stays f id none q = go (is_at (full_cmp id) q) refl
    where
      go : (b : Bool) → is_at (full_cmp id) q ≡ b → f q ≡ cond b None (f q)
      go true e = ap f (sym (same_id id q e)) ∙ none
      go false e = refl

  by_both : (b : Bool) (o p x y : Option X) → first_of (cond b o x) (cond b p y) ≡ cond b (first_of o p) (first_of x y)
  by_both true o p x y = refl
  by_both false o p x y = refl

  -- what there is at each id after cells and others have changed at one
  pub both_after : (rows new : List (List (Option X))) (others later : List (FullNodeId × X)) (id : FullNodeId) (o p : Option X)
      → ((q : FullNodeId) → cell_at new q ≡ cond (is_at (full_cmp id) q) o (cell_at rows q))
      → ((q : FullNodeId) → value_at later q ≡ cond (is_at (full_cmp id) q) p (value_at others q))
      → (q : FullNodeId) → value_at (cell_entries 0 new ++ later) q ≡ cond (is_at (full_cmp id) q) (first_of o p) (value_at (cell_entries 0 rows ++ others) q)
  both_after rows new others later id o p cells rest q =
      at_both new later q
      ∙ ap (λ x. first_of x (value_at later q)) (cells q)
      ∙ ap (first_of (cond (is_at (full_cmp id) q) o (cell_at rows q))) (rest q)
      ∙ by_both (is_at (full_cmp id) q) o p (cell_at rows q) (value_at others q)
      ∙ ap (cond (is_at (full_cmp id) q) (first_of o p)) (sym (at_both rows others q))

  abbrev pub Apart : List (List (Option X)) → List (FullNodeId × X) → Type 0
  Apart rows others = (q : FullNodeId) → IsSome (cell_at rows q) → value_at others q ≡ None

  pub apart_same : (new rows : List (List (Option X))) (others : List (FullNodeId × X)) → cell_entries 0 new ≡ cell_entries 0 rows → Apart rows others → Apart new others
  apart_same new rows others e apart q h = apart q (subst IsSome (same_cells new rows e q) h)

  pub apart_cells : (rows new : List (List (Option X))) (others : List (FullNodeId × X)) (id : FullNodeId) (o : Option X)
      → ((q : FullNodeId) → cell_at new q ≡ cond (is_at (full_cmp id) q) o (cell_at rows q)) → value_at others id ≡ None → Apart rows others → Apart new others
  apart_cells rows new others id o cells none apart q h = go (is_at (full_cmp id) q) refl
    where
      go : (b : Bool) → is_at (full_cmp id) q ≡ b → value_at others q ≡ None
      go true e = ap (value_at others) (sym (same_id id q e)) ∙ none
      go false e = apart q (subst IsSome (cells q ∙ ap (λ b. cond b o (cell_at rows q)) e) h)

  not_some : (o : Option X) → IsSome o → o ≡ None → ⊥
  not_some None h e = cc
  not_some (Some v) h e = cc

  pub apart_others : (rows : List (List (Option X))) (others later : List (FullNodeId × X)) (id : FullNodeId) (p : Option X)
      → ((q : FullNodeId) → value_at later q ≡ cond (is_at (full_cmp id) q) p (value_at others q)) → cell_at rows id ≡ None → Apart rows others → Apart rows later
  apart_others rows others later id p rest none apart q h = go (is_at (full_cmp id) q) refl
    where
      go : (b : Bool) → is_at (full_cmp id) q ≡ b → value_at later q ≡ None
      go true e = absurd (not_some (cell_at rows q) h (ap (cell_at rows) (sym (same_id id q e)) ∙ none))
      go false e = rest q ∙ ap (λ b. cond b p (value_at others q)) e ∙ apart q h

  by_apart : (o p : Option X) → (IsSome o → p ≡ None) → is_some p ≡ true → o ≡ None
  by_apart None p f h = refl
  by_apart (Some v) p f h = absurd (not_some p h (f refl))

  -- what is among the others has no value in a cell
  pub not_in_cells : (rows : List (List (Option X))) (others : List (FullNodeId × X)) (id : FullNodeId) → Apart rows others → is_some (value_at others id) ≡ true → cell_at rows id ≡ None
  not_in_cells rows others id apart h = by_apart (cell_at rows id) (value_at others id) (apart id) h

  pub count_kept : (o : Option X) (n m : ℕ) → n ≡ m + (if is_some o then 0 else 1) → is_some o ≡ true → n ≡ m
  count_kept None n m e h = cc
  count_kept (Some v) n m e h = omega arith

  pub count_more : (o : Option X) (n m : ℕ) → n ≡ m + (if is_some o then 0 else 1) → o ≡ None → n ≡ m + 1
  count_more None n m e h = e
  count_more (Some v) n m e h = cc

  pub length_by : (xs ys zs : List (FullNodeId × X)) (k len : ℕ) → length (xs ++ ys) ≡ len → length zs ≡ length ys + k → length (xs ++ zs) ≡ len + k
  length_by xs ys zs k len h e = omega (arith, length-append xs ys, length-append xs zs)

  pub length_before : (xs zs ys : List (FullNodeId × X)) (k m len : ℕ) → length (xs ++ ys) ≡ len → length zs + k ≡ length xs + m → length (zs ++ ys) + k ≡ len + m
  length_before xs zs ys k m len h e = omega (arith, length-append xs ys, length-append zs ys)

  pub length_kept : (xs ys zs : List (FullNodeId × X)) (len : ℕ) → length (xs ++ ys) ≡ len → length zs ≡ length ys → length (xs ++ zs) ≡ len
  length_kept xs ys zs len h e = omega (arith, length-append xs ys, length-append xs zs)

  by_first : (x p : Option X) → p ≡ None → first_of x p ≡ x
  by_first None p e = e
  by_first (Some v) p e = refl

  pub found_in_cell : (rows : List (List (Option X))) (others : List (FullNodeId × X)) (id : FullNodeId) (x : Option X) → cell_of rows id ≡ Some x → value_at others id ≡ None
      → value_at (cell_entries 0 rows ++ others) id ≡ x
  found_in_cell rows others id x e none = at_both rows others id ∙ ap (λ o. first_of (value_in o) (value_at others id)) e ∙ by_first x (value_at others id) none

  by_filled : (o : Option (Option X)) (v : X) → value_in o ≡ Some v → o ≡ Some (Some v)
  by_filled None v e = cc
  by_filled (Some x) v e = ap Some e

  pub filled : (rows : List (List (Option X))) (id : FullNodeId) (v : X) → cell_at rows id ≡ Some v → cell_of rows id ≡ Some (Some v)
  filled rows id v e = by_filled (cell_of rows id) v e

  -- writing over the value at an id
  none_by : (a : Bool) (v w : X) (o r : Option X) → cond a (Some v) o ≡ None → (o ≡ None → r ≡ None) → cond a (Some w) r ≡ None
  none_by true v w o r e f = cc
  none_by false v w o r e f = f e

  set_by : (p : FullNodeId → Bool) (q : FullNodeId) (b : Bool) (k : FullNodeId) (v w : X) (es ws : List (FullNodeId × X)) → cond (is_at (full_cmp q) k) (Some v) (value_at es q) ≡ None
      → (value_at es q ≡ None → value_at ws q ≡ None) → value_at (cond b ((k, w) ∷ es) ((k, v) ∷ ws)) q ≡ None
  set_by p q true k v w es ws e f = none_by (is_at (full_cmp q) k) v w (value_at es q) (value_at es q) e (λ h. h)
  set_by p q false k v w es ws e f = none_by (is_at (full_cmp q) k) v v (value_at es q) (value_at ws q) e f

  pub none_after : (p : FullNodeId → Bool) (q : FullNodeId) (w : X) (es : List (FullNodeId × X)) → value_at es q ≡ None → value_at (set_value p es w) q ≡ None
  none_after p q w [] e = e
  none_after p q w (x ∷ es) e = set_by p q (p x.0) x.0 x.1 w es (set_value p es w) e (none_after p q w es)

  right_set : (b : Bool) (p : FullNodeId → Bool) (x : FullNodeId × X) (w : X) (xs ys zs : List (FullNodeId × X)) → cond b (Some x.1) (lookup p xs) ≡ None → (lookup p xs ≡ None → zs ≡ xs ++ set_value p ys w)
      → cond b ((x.0, w) ∷ (xs ++ ys)) (x ∷ zs) ≡ x ∷ (xs ++ set_value p ys w)
  right_set true p x w xs ys zs e f = cc
  right_set false p x w xs ys zs e f = ap (λ l. x ∷ l) (f e)

  pub set_right : (p : FullNodeId → Bool) (w : X) (xs ys : List (FullNodeId × X)) → lookup p xs ≡ None → set_value p (xs ++ ys) w ≡ xs ++ set_value p ys w
  set_right p w [] ys e = refl
  set_right p w (x ∷ xs) ys e = right_set (p x.0) p x w xs ys (set_value p (xs ++ ys) w) e (set_right p w xs ys)

  left_set : (b : Bool) (p : FullNodeId → Bool) (x : FullNodeId × X) (v w : X) (xs ys zs : List (FullNodeId × X)) → cond b (Some x.1) (lookup p xs) ≡ Some v → (lookup p xs ≡ Some v → zs ≡ set_value p xs w ++ ys)
      → cond b ((x.0, w) ∷ (xs ++ ys)) (x ∷ zs) ≡ cond b ((x.0, w) ∷ xs) (x ∷ set_value p xs w) ++ ys
  left_set true p x v w xs ys zs e f = refl
  left_set false p x v w xs ys zs e f = ap (λ l. x ∷ l) (f e)

  pub set_left : (p : FullNodeId → Bool) (v w : X) (xs ys : List (FullNodeId × X)) → lookup p xs ≡ Some v → set_value p (xs ++ ys) w ≡ set_value p xs w ++ ys
  set_left p v w [] ys e = cc
  set_left p v w (x ∷ xs) ys e = left_set (p x.0) p x v w xs ys (set_value p (xs ++ ys) w) e (set_left p v w xs ys)

  row_set : (tree node : ℕ) (row : List (Option X)) (k : ℕ) (v w : X) → slice_get row k ≡ Some (Some v)
      → row_entries tree node (set row k (Some w)) ≡ set_value (is_at (full_cmp (id_of tree (k + node)))) (row_entries tree node row) w
  row_set tree node [] k v w h = cc
  row_set tree node (None ∷ row) zero v w h = cc
  row_set tree node (Some u ∷ row) zero v w h =
      sym (ap (λ n. set_value (is_at (full_cmp (id_of tree n))) ((id_of tree node, u) ∷ row_entries tree (suc node) row) w) (plus_zero node)
      ∙ ap (λ b. cond b ((id_of tree node, w) ∷ row_entries tree (suc node) row) ((id_of tree node, u) ∷ set_value (is_at (full_cmp (id_of tree node))) (row_entries tree (suc node) row) w)) (at_itself (id_of tree node)))
  row_set tree node (None ∷ row) (suc k) v w h =
      row_set tree (suc node) row k v w h ∙ ap (λ n. set_value (is_at (full_cmp (id_of tree n))) (row_entries tree (suc node) row) w) (plus_suc k node)
  row_set tree node (Some u ∷ row) (suc k) v w h =
      ap (λ es. (id_of tree node, u) ∷ es) (row_set tree (suc node) row k v w h ∙ ap (λ n. set_value (is_at (full_cmp (id_of tree n))) (row_entries tree (suc node) row) w) (plus_suc k node))
      ∙ sym (ap (λ b. cond b ((id_of tree node, w) ∷ row_entries tree (suc node) row) ((id_of tree node, u) ∷ set_value (is_at (full_cmp (id_of tree (suc k + node)))) (row_entries tree (suc node) row) w))
      (apart_from (id_of tree (suc k + node)) (id_of tree node) (λ e. let n : suc k + node ≡ node = ap (λ (i : FullNodeId). i.node.0) e in absurd (omega arith))))

  cells_set : (tree : ℕ) (rows : List (List (Option X))) (k n : ℕ) (v w : X) → slice_get (get_or rows k []) n ≡ Some (Some v)
      → cell_entries tree (set rows k (set (get_or rows k []) n (Some w))) ≡ set_value (is_at (full_cmp (id_of (k + tree) n))) (cell_entries tree rows) w
  cells_set tree [] k n v w h = cc
  cells_set tree (row ∷ rows) zero n v w h =
      ap (λ es. es ++ cell_entries (suc tree) rows) (row_set tree 0 row n v w h ∙ ap (λ m. set_value (is_at (full_cmp (id_of tree m))) (row_entries tree 0 row) w) (zero_plus n))
      ∙ sym (set_left (is_at (full_cmp (id_of tree n))) v w (row_entries tree 0 row) (cell_entries (suc tree) rows)
      (ap (λ m. value_at (row_entries tree 0 row) (id_of tree m)) (sym (zero_plus n)) ∙ row_at tree 0 row n ∙ ap value_in h))
      ∙ ap (λ t. set_value (is_at (full_cmp (id_of t n))) (row_entries tree 0 row ++ cell_entries (suc tree) rows) w) (sym (plus_zero tree))
  cells_set tree (row ∷ rows) (suc k) n v w h =
      ap (λ es. row_entries tree 0 row ++ es) (cells_set (suc tree) rows k n v w h ∙ ap (λ t. set_value (is_at (full_cmp (id_of t n))) (cell_entries (suc tree) rows) w) (plus_suc k tree))
      ∙ sym (set_right (is_at (full_cmp (id_of (suc k + tree) n))) w (row_entries tree 0 row) (cell_entries (suc tree) rows) (row_other tree 0 row (id_of (suc k + tree) n) (λ e. absurd (omega arith))))

  module _ (rows : List (List (Option X))) (others : List (FullNodeId × X)) (id : FullNodeId) (w : X) where
    pub written_cell : (v : X) → cell_at rows id ≡ Some v → cell_entries 0 (with_cell rows id (Some w)) ++ others ≡ set_value (is_at (full_cmp id)) (cell_entries 0 rows ++ others) w
    written_cell v e =
        ap (λ es. es ++ others) (cells_set 0 rows id.tree id.node.0 v w (filled rows id v e) ∙ ap (λ t. set_value (is_at (full_cmp (id_of t id.node.0))) (cell_entries 0 rows) w) (zero_plus id.tree))
        ∙ sym (set_left (is_at (full_cmp id)) v w (cell_entries 0 rows) others (at_cell rows id ∙ e))

    pub written_other : cell_at rows id ≡ None → cell_entries 0 rows ++ set_value (is_at (full_cmp id)) others w ≡ set_value (is_at (full_cmp id)) (cell_entries 0 rows ++ others) w
    written_other e = sym (set_right (is_at (full_cmp id)) w (cell_entries 0 rows) others (at_cell rows id ∙ e))

    pub length_written : length (cell_entries 0 rows ++ set_value (is_at (full_cmp id)) others w) ≡ length (cell_entries 0 rows ++ others)
    length_written = omega (arith, length-append (cell_entries 0 rows) others, length-append (cell_entries 0 rows) (set_value (is_at (full_cmp id)) others w), length-set_value (is_at (full_cmp id)) others w)
