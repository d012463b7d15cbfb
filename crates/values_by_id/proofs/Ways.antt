-- Ways through a trie, and what a change of one cell leaves of them.
use Rattle.std.proofs.Common.{◌≡◌, ◌≢◌, ℕ, zero, suc, ◌+◌, ◌-◌, ◌<◌, ◌≤◌, List, [], ◌∷◌, ◌++◌, length, get_or, set, true, false, true≢false, Some, None, refl, sym, ap, ◌∙◌, arith, ◌⊎◌, inl, inr, eqb, get_or-set_same, get_or-set_other, length-append}
use Rattle.std.proofs.lemmas.Bool.{cases_lt}
use Rattle.std.proofs.lemmas.Bool.Decides.{eqb_tells}
use Rattle.std.proofs.lemmas.Option.{same_Some}
use Rattle.std.proofs.lemmas.List.{get_or_default, get_or_append_left, get_or-append-add, get_or-append_right, length-set}
use Rattle.model.specs.declared.FullNodeId.{FullNodeId}
use Rattle.values_by_id.specs.declared.trie.Cell.{Cell}
use Rattle.values_by_id.specs.declared.trie.Cell.TheVariants.{Empty, Entry, Node}
use Rattle.values_by_id.specs.Ways.{digit_of, cell_at, is_last, number_of, next, after, start, found, IsOn, IsEnd, IsOrdered}

past : {X : Type 0} (xs : List X) (i : ℕ) (d : X) → length xs ≤ i → get_or xs i d ≡ d
past [] i d h = refl
past (x ∷ xs) zero d h = absurd (omega arith)
past (x ∷ xs) (suc i) d h = past xs i d (omega arith)

-- a way that has ended stays where it is
stay : (cells : List Cell) (q : FullNodeId) (steps : ℕ) (x : Cell) → is_last x ≡ true → after cells q steps x ≡ x
stay cells q zero x l = refl
stay cells q (suc n) Empty l = stay cells q n Empty refl
stay cells q (suc n) (Entry k) l = stay cells q n (Entry k) refl
stay cells q (suc n) (Node s f) l = cc

settled : (cells : List Cell) (q : FullNodeId) (f g : ℕ) (c x : Cell) → after cells q f c ≡ x → is_last x ≡ true → f ≤ g → after cells q g c ≡ x
settled cells q zero g c x e l h = ap (after cells q g) e ∙ stay cells q g x l
settled cells q (suc f) zero c x e l h = absurd (omega arith)
settled cells q (suc f) (suc g) c x e l h = settled cells q f g (next cells q c) x e l (omega arith)

last_step : (cells : List Cell) (q : FullNodeId) (f : ℕ) (c : Cell) → after cells q (suc f) c ≡ next cells q (after cells q f c)
last_step cells q zero c = refl
last_step cells q (suc f) c = last_step cells q f (next cells q c)

entry_from : (c : Cell) (k : ℕ) → number_of c ≡ Some k → c ≡ Entry k
entry_from Empty k e = cc
entry_from (Entry n) k e = ap Entry (same_Some n k e)
entry_from (Node s f) k e = cc

not_node : (x : Cell) (s f : ℕ) → is_last x ≡ true → x ≡ Node s f → ⊥
not_node x s f l e = true≢false (sym l ∙ ap is_last e)

not_entry : (k : ℕ) → Empty ≡ Entry k → ⊥
not_entry k e = cc

-- the way of an id leads to the number where it ends
pub end_found : (cells : List Cell) (q : FullNodeId) (p : ℕ) → IsEnd cells q p → found cells q ≡ number_of (cell_at cells p)
end_found cells q p e =
    let less : suc e.steps ≤ length cells = omega (arith, e.within, e.soon) in
    ap number_of (settled cells q (suc e.steps) (length cells) start (cell_at cells p)
    (last_step cells q e.steps start ∙ ap (next cells q) e.leads ∙ ap (cell_at cells) (sym e.place_is)) e.last less)

-- so many steps, and e more
abbrev later : ℕ → ℕ → ℕ
later zero e = e
later (suc f) e = suc (later f e)

later_zero : (f : ℕ) → later f 0 ≡ f
later_zero zero = refl
later_zero (suc f) = ap suc (later_zero f)

later_one : (f : ℕ) → later f 1 ≡ suc f
later_one zero = refl
later_one (suc f) = ap suc (later_one f)

-- a cell is the changed one, or the same as before, or was not there
abbrev Read : List Cell → List Cell → ℕ → ℕ → Type 0
Read cells new p i = (i ≡ p) ⊎ ((cell_at new i ≡ cell_at cells i) ⊎ (cell_at cells i ≡ Empty))

abbrev IsSameBut : List Cell → List Cell → ℕ → Type 0
IsSameBut cells new p = (i : ℕ) → i < length cells → i ≢ p → cell_at new i ≡ cell_at cells i

module _ (cells new : List Cell) (p : ℕ) (same : IsSameBut cells new p) where
  read_by : (i : ℕ) → ((eqb i p ≡ true) × (i ≡ p)) ⊎ ((eqb i p ≡ false) × (i ≢ p)) → (i < length cells) ⊎ (length cells ≤ i) → Read cells new p i
  read_by i (inl e) l = inl e.1
  read_by i (inr e) (inl l) = inr (inl (same i l e.1))
  read_by i (inr e) (inr l) = inr (inr (past cells i Empty l))

  read : (i : ℕ) → Read cells new p i
  read i = read_by i (eqb_tells i p) (cases_lt i (length cells))

  module _ (last : is_last (cell_at cells p) ≡ true) (q : FullNodeId) where
    node_by : (f i s m : ℕ) → Read cells new p i → after cells q f (cell_at cells i) ≡ Node s m → after new q f (cell_at cells i) ≡ Node s m → after new q f (cell_at new i) ≡ Node s m
    node_by f i s m (inl e) h ih = absurd (not_node (cell_at cells p) s m last (sym (stay cells q f (cell_at cells p) last) ∙ ap (λ j. after cells q f (cell_at cells j)) (sym e) ∙ h))
    node_by f i s m (inr (inl e)) h ih = ap (after new q f) e ∙ ih
    node_by f i s m (inr (inr e)) h ih = absurd (not_node Empty s m refl (sym (stay cells q f Empty refl) ∙ ap (after cells q f) (sym e) ∙ h))

    -- a way to a node doesn't pass the changed cell
    keeps_node : (f : ℕ) (c : Cell) (s m : ℕ) → after cells q f c ≡ Node s m → after new q f c ≡ Node s m
    keeps_node zero c s m h = h
    keeps_node (suc f) Empty s m h = absurd (not_node Empty s m refl (sym (stay cells q f Empty refl) ∙ h))
    keeps_node (suc f) (Entry k) s m h = absurd (not_node (Entry k) s m refl (sym (stay cells q f (Entry k) refl) ∙ h))
    keeps_node (suc f) (Node t g) s m h = node_by f (g + digit_of t q) s m (read (g + digit_of t q)) h (keeps_node f (cell_at cells (g + digit_of t q)) s m h)

    module _ (e k : ℕ) (at_p : (f : ℕ) → after cells q f (cell_at cells p) ≡ Entry k → after new q (later f e) (cell_at new p) ≡ Entry k) where
      entry_by : (f i : ℕ) → Read cells new p i → after cells q f (cell_at cells i) ≡ Entry k → after new q (later f e) (cell_at cells i) ≡ Entry k → after new q (later f e) (cell_at new i) ≡ Entry k
      entry_by f i (inl is) h ih = ap (λ j. after new q (later f e) (cell_at new j)) is ∙ at_p f (ap (λ j. after cells q f (cell_at cells j)) (sym is) ∙ h)
      entry_by f i (inr (inl is)) h ih = ap (after new q (later f e)) is ∙ ih
      entry_by f i (inr (inr is)) h ih = absurd (not_entry k (sym (stay cells q f Empty refl) ∙ ap (after cells q f) (sym is) ∙ h))

      -- a way to an entry leads there still, if it does so from the changed cell on
      keeps_entry : (f : ℕ) (c : Cell) → after cells q f c ≡ Entry k → after new q (later f e) c ≡ Entry k
      keeps_entry zero c h = ap (after new q e) h ∙ stay new q e (Entry k) refl
      keeps_entry (suc f) Empty h = absurd (not_entry k (sym (stay cells q f Empty refl) ∙ h))
      keeps_entry (suc f) (Entry j) h = stay new q (later f e) (Entry j) refl ∙ sym (stay cells q f (Entry j) refl) ∙ h
      keeps_entry (suc f) (Node t g) h = entry_by f (g + digit_of t q) (read (g + digit_of t q)) h (keeps_entry f (cell_at cells (g + digit_of t q)) h)

-- one cell, at which ways end, is set to another one like that
module _ (cells : List Cell) (p : ℕ) (x : Cell) (within : p < length cells) (last : is_last (cell_at cells p) ≡ true) (ends : is_last x ≡ true) where
  same_but : IsSameBut cells (set cells p x) p
  same_but i l h = get_or-set_other cells p i x Empty h

  pub put_ends : (q : FullNodeId) → IsEnd cells q p → found (set cells p x) q ≡ number_of x
  put_ends q e =
      let less : suc e.steps ≤ length (set cells p x) = omega (arith, e.within, e.soon, length-set cells p x) in
      ap number_of (settled (set cells p x) q (suc e.steps) (length (set cells p x)) start x
      (last_step (set cells p x) q e.steps start
      ∙ ap (next (set cells p x) q) (keeps_node cells (set cells p x) p same_but last q e.steps start e.shift e.first e.leads)
      ∙ ap (cell_at (set cells p x)) (sym e.place_is)
      ∙ get_or-set_same cells p x Empty within) ends less)

  pub put_others : (q : FullNodeId) (k : ℕ) → found cells q ≡ Some k → number_of (cell_at cells p) ≢ Some k → found (set cells p x) q ≡ Some k
  put_others q k h other =
      ap number_of (ap (λ n. after (set cells p x) q n start) (length-set cells p x ∙ sym (later_zero (length cells)))
      ∙ keeps_entry cells (set cells p x) p same_but last q 0 k (λ f e. absurd (other (ap number_of (sym (stay cells q f (cell_at cells p) last) ∙ e)))) (length cells) start
      (entry_from (after cells q (length cells) start) k h))

  was_by : (i s f : ℕ) → ((eqb i p ≡ true) × (i ≡ p)) ⊎ ((eqb i p ≡ false) × (i ≢ p)) → cell_at (set cells p x) i ≡ Node s f → cell_at cells i ≡ Node s f
  was_by i s f (inl e) h = absurd (not_node x s f ends (sym (get_or-set_same cells p x Empty within) ∙ ap (cell_at (set cells p x)) (sym e.1) ∙ h))
  was_by i s f (inr e) h = sym (get_or-set_other cells p i x Empty e.1) ∙ h

  was : (i s f : ℕ) → cell_at (set cells p x) i ≡ Node s f → cell_at cells i ≡ Node s f
  was i s f h = was_by i s f (eqb_tells i p) h

  pub put_ordered : IsOrdered cells → IsOrdered (set cells p x)
  put_ordered o = record {
    first_node = λ h. omega (arith, length-set cells p x, o.first_node (omega (arith, h, length-set cells p x)));
    behind = λ i s f h. o.behind i s f (was i s f h);
    whole = λ i s f h. omega (arith, length-set cells p x, o.whole i s f (was i s f h));
    shifts = λ i s f h. o.shifts i s f (was i s f h);
  }

abbrev first_of : Cell → ℕ
first_of Empty = 0
first_of (Entry n) = 0
first_of (Node t f) = f

abbrev shift_of : Cell → ℕ
shift_of Empty = 0
shift_of (Entry n) = 0
shift_of (Node t f) = t

-- one cell, at which ways end, becomes a node, whose cells stand at the end
module _ (cells node : List Cell) (p s : ℕ) (within : p < length cells) (last : is_last (cell_at cells p) ≡ true) (sixteen : length node ≡ 16) (lasts : (d : ℕ) → is_last (cell_at node d) ≡ true) where
  abbrev split_cells : List Cell
  split_cells = set (cells ++ node) p (Node s (length cells))

  long : length split_cells ≡ length cells + 16
  long = length-set (cells ++ node) p (Node s (length cells)) ∙ length-append cells node ∙ ap (λ n. length cells + n) sixteen

  split_same : IsSameBut cells split_cells p
  split_same i l h = get_or-set_other (cells ++ node) p i (Node s (length cells)) Empty h ∙ get_or_append_left cells node Empty i l

  split_at : cell_at split_cells p ≡ Node s (length cells)
  split_at = get_or-set_same (cells ++ node) p (Node s (length cells)) Empty (omega (arith, within, length-append cells node))

  split_new : (d : ℕ) → cell_at split_cells (length cells + d) ≡ cell_at node d
  split_new d = get_or-set_other (cells ++ node) p (length cells + d) (Node s (length cells)) Empty (λ e. absurd (omega (arith, within, e))) ∙ get_or-append-add cells node d Empty

  pub split_own : (q : FullNodeId) (x : Cell) → IsEnd cells q p → is_last x ≡ true → cell_at node (digit_of s q) ≡ x → found split_cells q ≡ number_of x
  split_own q x e ends is =
      let less : suc (suc e.steps) ≤ length split_cells = omega (arith, e.within, e.soon, long) in
      ap number_of (settled split_cells q (suc (suc e.steps)) (length split_cells) start x
      (last_step split_cells q (suc e.steps) start
      ∙ ap (next split_cells q)
      (last_step split_cells q e.steps start
      ∙ ap (next split_cells q) (keeps_node cells split_cells p split_same last q e.steps start e.shift e.first e.leads)
      ∙ ap (cell_at split_cells) (sym e.place_is)
      ∙ split_at)
      ∙ split_new (digit_of s q)
      ∙ is) ends less)

  pub split_others : (other q : FullNodeId) (k : ℕ) → cell_at node (digit_of s other) ≡ cell_at cells p → found cells q ≡ Some k → (number_of (cell_at cells p) ≡ Some k → q ≡ other) → found split_cells q ≡ Some k
  split_others other q k stands h to_other =
      ap number_of (settled split_cells q (suc (length cells)) (length split_cells) start (Entry k)
      (ap (λ n. after split_cells q n start) (sym (later_one (length cells)))
      ∙ keeps_entry cells split_cells p split_same last q 1 k at_p (length cells) start (entry_from (after cells q (length cells) start) k h)) refl (omega (arith, long)))
    where
      at_p : (f : ℕ) → after cells q f (cell_at cells p) ≡ Entry k → after split_cells q (later f 1) (cell_at split_cells p) ≡ Entry k
      at_p f e =
          let is : cell_at cells p ≡ Entry k = sym (stay cells q f (cell_at cells p) last) ∙ e in
          ap (λ n. after split_cells q n (cell_at split_cells p)) (later_one f)
          ∙ ap (after split_cells q (suc f)) split_at
          ∙ ap (λ w. after split_cells q f (cell_at split_cells (length cells + digit_of s w))) (to_other (ap number_of is))
          ∙ ap (after split_cells q f) (split_new (digit_of s other) ∙ stands ∙ is)
          ∙ stay split_cells q f (Entry k) refl

  -- a node among the new cells is the one at p, or was there
  abbrev Was : ℕ → ℕ → ℕ → Type 0
  Was i t f = ((i ≡ p) × (Node s (length cells) ≡ Node t f)) ⊎ (cell_at cells i ≡ Node t f)

  new_by : (i t f : ℕ) → length cells ≤ i → cell_at (cells ++ node) i ≡ Node t f → ⊥
  new_by i t f l h = not_node (cell_at node (i - length cells)) t f (lasts (i - length cells)) (sym (get_or-append_right cells node (length cells) i Empty refl l) ∙ h)

  split_was_by : (i t f : ℕ) → ((eqb i p ≡ true) × (i ≡ p)) ⊎ ((eqb i p ≡ false) × (i ≢ p)) → (i < length cells) ⊎ (length cells ≤ i) → cell_at split_cells i ≡ Node t f → Was i t f
  split_was_by i t f (inl e) l h = inl (e.1, sym split_at ∙ ap (cell_at split_cells) (sym e.1) ∙ h)
  split_was_by i t f (inr e) (inl l) h = inr (sym (split_same i l e.1) ∙ h)
  split_was_by i t f (inr e) (inr l) h = absurd (new_by i t f l (sym (get_or-set_other (cells ++ node) p i (Node s (length cells)) Empty e.1) ∙ h))

  split_was : (i t f : ℕ) → cell_at split_cells i ≡ Node t f → Was i t f
  split_was i t f h = split_was_by i t f (eqb_tells i p) (cases_lt i (length cells)) h

  same_first : (t f : ℕ) → Node s (length cells) ≡ Node t f → length cells ≡ f
  same_first t f e = ap first_of e

  same_shift : (t f : ℕ) → Node s (length cells) ≡ Node t f → s ≡ t
  same_shift t f e = ap shift_of e

  behind_by : (i t f : ℕ) → IsOrdered cells → Was i t f → i < f
  behind_by i t f o (inl (e, n)) = omega (arith, within, e, same_first t f n)
  behind_by i t f o (inr h) = o.behind i t f h

  whole_by : (i t f : ℕ) → IsOrdered cells → Was i t f → f + 16 ≤ length split_cells
  whole_by i t f o (inl (e, n)) = omega (arith, long, same_first t f n)
  whole_by i t f o (inr h) = omega (arith, long, o.whole i t f h)

  shifts_by : (i t f : ℕ) → s < 128 → IsOrdered cells → Was i t f → t < 128
  shifts_by i t f b o (inl (e, n)) = omega (arith, b, same_shift t f n)
  shifts_by i t f b o (inr h) = o.shifts i t f h

  pub split_ordered : s < 128 → IsOrdered cells → IsOrdered split_cells
  split_ordered b o = record {
    first_node = λ h. omega (arith, long);
    behind = λ i t f h. behind_by i t f o (split_was i t f h);
    whole = λ i t f h. whole_by i t f o (split_was i t f h);
    shifts = λ i t f h. shifts_by i t f b o (split_was i t f h);
  }

-- the cells of a new node
pub all_last_set : (xs : List Cell) (i d : ℕ) (x : Cell) → is_last x ≡ true → ((d : ℕ) → is_last (cell_at xs d) ≡ true) → is_last (cell_at (set xs i x) d) ≡ true
all_last_set [] i d x l h = h d
all_last_set (y ∷ ys) zero zero x l h = l
all_last_set (y ∷ ys) zero (suc d) x l h = h (suc d)
all_last_set (y ∷ ys) (suc i) zero x l h = h zero
all_last_set (y ∷ ys) (suc i) (suc d) x l h = all_last_set ys i d x l (λ j. h (suc j))

-- where there is no cell, nothing is found
pub has_cells : (cells : List Cell) (q : FullNodeId) (k : ℕ) → found cells q ≡ Some k → 0 < length cells
has_cells [] q k h = cc
has_cells (c ∷ cells) q k h = omega arith

pub found_empty : (cells : List Cell) (q : FullNodeId) → length cells ≡ 0 → found cells q ≡ None
found_empty [] q h = refl
found_empty (c ∷ cells) q h = absurd (omega arith)

-- the steps of a way
pub on_start : (cells : List Cell) (q : FullNodeId) → IsOrdered cells → 0 < length cells → IsOn cells q 0 0
on_start cells q o h = record { steps = 0; leads = refl; soon = omega arith; whole = omega (arith, o.first_node h); fits = omega arith }

pub on_next : (cells : List Cell) (q : FullNodeId) (s f p t g : ℕ) → IsOrdered cells → IsOn cells q s f → p ≡ f + digit_of s q → cell_at cells p ≡ Node t g → IsOn cells q t g
on_next cells q s f p t g o on place is = record {
  steps = suc on.steps;
  leads = last_step cells q on.steps start ∙ ap (next cells q) on.leads ∙ ap (cell_at cells) (sym place) ∙ is;
  soon = omega (arith, on.soon, place, o.behind p t g is);
  whole = o.whole p t g is;
  fits = o.shifts p t g is;
}

pub on_end : (cells : List Cell) (q : FullNodeId) (s f p : ℕ) → IsOn cells q s f → p ≡ f + digit_of s q → p < length cells → is_last (cell_at cells p) ≡ true → IsEnd cells q p
on_end cells q s f p on place within last = record { steps = on.steps; shift = s; first = f; leads = on.leads; place_is = place; within = within; soon = omega (arith, on.soon, place); last = last }

-- the new node has the cell that was there, and the new entry
module _ (cells blank : List Cell) (p s number : ℕ) (id other : FullNodeId) (within : p < length cells) (last : is_last (cell_at cells p) ≡ true) (sixteen : length blank ≡ 16) (lasts : (d : ℕ) → is_last (cell_at blank d) ≡ true) (differ : digit_of s id ≢ digit_of s other) (own_fits : digit_of s id < 16) (other_fits : digit_of s other < 16) where
  abbrev pub new_node : List Cell
  new_node = set (set blank (digit_of s other) (cell_at cells p)) (digit_of s id) (Entry number)

  node_long : length new_node ≡ 16
  node_long = length-set (set blank (digit_of s other) (cell_at cells p)) (digit_of s id) (Entry number) ∙ length-set blank (digit_of s other) (cell_at cells p) ∙ sixteen

  node_lasts : (d : ℕ) → is_last (cell_at new_node d) ≡ true
  node_lasts d = all_last_set (set blank (digit_of s other) (cell_at cells p)) (digit_of s id) d (Entry number) refl (λ j. all_last_set blank (digit_of s other) j (cell_at cells p) last lasts)

  node_own : cell_at new_node (digit_of s id) ≡ Entry number
  node_own = get_or-set_same (set blank (digit_of s other) (cell_at cells p)) (digit_of s id) (Entry number) Empty (omega (arith, own_fits, sixteen, length-set blank (digit_of s other) (cell_at cells p)))

  node_other : cell_at new_node (digit_of s other) ≡ cell_at cells p
  node_other =
      get_or-set_other (set blank (digit_of s other) (cell_at cells p)) (digit_of s id) (digit_of s other) (Entry number) Empty (λ e. differ (sym e))
      ∙ get_or-set_same blank (digit_of s other) (cell_at cells p) Empty (omega (arith, other_fits, sixteen))

  pub parted_own : IsEnd cells id p → found (set (cells ++ new_node) p (Node s (length cells))) id ≡ Some number
  parted_own e = split_own cells new_node p s within last node_long node_lasts id (Entry number) e refl node_own

  pub parted_others : (q : FullNodeId) (k : ℕ) → found cells q ≡ Some k → (number_of (cell_at cells p) ≡ Some k → q ≡ other) → found (set (cells ++ new_node) p (Node s (length cells))) q ≡ Some k
  parted_others q k h to_other = split_others cells new_node p s within last node_long node_lasts other q k node_other h to_other

  pub parted_ordered : s < 128 → IsOrdered cells → IsOrdered (set (cells ++ new_node) p (Node s (length cells)))
  parted_ordered b o = split_ordered cells new_node p s within last node_long node_lasts b o

  pub same_split : {grown room : List Cell} {first d_own d_other : ℕ} {x : Cell} → grown ≡ room ++ set (set blank d_other x) d_own (Entry number) → room ≡ cells → x ≡ cell_at cells p → first ≡ length cells → d_own ≡ digit_of s id → d_other ≡ digit_of s other
      → set grown p (Node s first) ≡ set (cells ++ new_node) p (Node s (length cells))
  same_split {grown} {room} {first} {d_own} {d_other} {x} grown_is room_is x_is first_is own_is other_is =
      ap (λ g. set g p (Node s first)) grown_is
      ∙ ap (λ r. set (r ++ set (set blank d_other x) d_own (Entry number)) p (Node s first)) room_is
      ∙ ap (λ y. set (cells ++ set (set blank d_other y) d_own (Entry number)) p (Node s first)) x_is
      ∙ ap (λ d. set (cells ++ set (set blank d (cell_at cells p)) d_own (Entry number)) p (Node s first)) other_is
      ∙ ap (λ d. set (cells ++ set (set blank (digit_of s other) (cell_at cells p)) d (Entry number)) p (Node s first)) own_is
      ∙ ap (λ f. set (cells ++ new_node) p (Node s f)) first_is

-- what was read is the cell
pub cell_is : (cells : List Cell) (p : ℕ) (x : Cell) → x ≡ get_or cells p x → p < length cells → cell_at cells p ≡ x
cell_is cells p x h less = sym (h ∙ get_or_default cells p x Empty less)

pub smaller : (n f g : ℕ) → f < g → g + 16 ≤ n → n - g < n - f
smaller n f g less fits = omega arith

-- empty cells
abbrev pub blanks : ℕ → List Cell
blanks zero = []
blanks (suc n) = Empty ∷ blanks n

pub blanks_last : (n d : ℕ) → is_last (cell_at (blanks n) d) ≡ true
blanks_last zero d = refl
blanks_last (suc n) zero = refl
blanks_last (suc n) (suc d) = blanks_last n d
