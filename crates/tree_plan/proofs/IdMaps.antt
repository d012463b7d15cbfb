-- Maps and sets by ids as functions.
use Rattle.std.proofs.Common.{get_or, ◌+◌, ◌<◌, ◌≤◌, length, arith, ◌≡◌, ◌≢◌, ◌⊎◌, Bool, true, false, cond, Contains, ℕ, suc, List, [], ◌∷◌, Option, Some, None, ⊎_elim, inl, inr, refl, sym, ap, subst, ◌∙◌}
use Rattle.std.specs.Prelude.{IsSome, is_some, slice_get}
use Rattle.std.specs.Cmp.{Equal-is, eq_by_cmp_equiv}
use Rattle.std.specs.BTreeMap.{is_at}
use Rattle.std.specs.BTreeSet.{BTreeSet}
use Rattle.std.specs.List.{list_any}
use Rattle.std.specs.Map.{keys_of, set_value}
use Rattle.std.proofs.lemmas.Bool.{cases_lt}
use Rattle.std.proofs.lemmas.Map.{lookup-set_value}
use Rattle.std.proofs.lemmas.Map.Keys.{IsDistinct-from_sorted}
use Rattle.std.proofs.lemmas.Map.Entries.{lookup_from_place}
use Rattle.std.proofs.lemmas.Option.{same_Some, slice_get-get_or, slice_get_read, slice_get_within, get_or_from_slice_get}
use Rattle.model.specs.declared.FullNodeId.{FullNodeId}
use Rattle.model.specs.FullIds.{full_cmp, exact_full, full_total}
use Rattle.model.proofs.Members.{contains_none, contains_cases}
use Rattle.values_by_id.specs.Rows.{Ascends}
use Rattle.values_by_id.proofs.Settled.{contains_from_row_at}
use Rattle.tree_plan.specs.Passes.{at, has}

-- f has v at c, and is g elsewhere
abbrev pub Put : {X : Type 0} → FullNodeId → X → (FullNodeId → X) → (FullNodeId → X) → Type 0
Put c v before after = (q : FullNodeId) → after q ≡ cond (is_at (full_cmp c) q) v (before q)

pub same_key : (c q : FullNodeId) → is_at (full_cmp c) q ≡ true → c ≡ q
same_key c q e = exact_full c q ((Equal-is (full_cmp c q)).0 e)

pub at_itself : (c : FullNodeId) → is_at (full_cmp c) c ≡ true
at_itself c = (eq_by_cmp_equiv full_total).refl c

pub put_here : {X : Type 0} (c : FullNodeId) (v : X) (f g : FullNodeId → X) → Put c v f g → g c ≡ v
put_here c v f g h = h c ∙ ap (λ b. cond b v (f c)) (at_itself c)

pub put_apart : {X : Type 0} (c : FullNodeId) (v : X) (f g : FullNodeId → X) → Put c v f g → (q : FullNodeId) → c ≢ q → g q ≡ f q
put_apart {X} c v f g h q other = go (is_at (full_cmp c) q) refl (h q)
  where
    go : (b : Bool) → is_at (full_cmp c) q ≡ b → g q ≡ cond b v (f q) → g q ≡ f q
    go true e k = absurd (other (same_key c q e))
    go false e k = k

pub none_or_some : {X : Type 0} (o : Option X) → (o ≡ None) ⊎ ((x : X) × (o ≡ Some x))
none_or_some None = inl refl
none_or_some (Some x) = inr (x, refl)

pub some_is : {X : Type 0} (o : Option X) (x : X) → o ≡ Some x → IsSome o
some_is (Some y) x e = refl
some_is None x e = cc

pub none_if_not : {X : Type 0} (o : Option X) → false ≡ is_some o → o ≡ None
none_if_not None h = refl
none_if_not (Some x) h = cc

-- ---- lists

pub contains_at : {X : Type 0} (xs : List X) (i : ℕ) (x : X) → slice_get xs i ≡ Some x → Contains xs x
contains_at xs i x is = (i, slice_get_within xs i x is, get_or_from_slice_get xs i x x is)

pub at_contains : {X : Type 0} (xs : List X) (x : X) → Contains xs x → (i : ℕ) × (slice_get xs i ≡ Some x)
at_contains [] x h = absurd (contains_none x h)
at_contains {X} (y ∷ ys) x h = go (contains_cases y x ys h) (at_contains ys x)
  where
    go : (y ≡ x) ⊎ Contains ys x → (Contains ys x → (i : ℕ) × (slice_get ys i ≡ Some x)) → (i : ℕ) × (slice_get (y ∷ ys) i ≡ Some x)
    go (inl same) later = (0, ap Some same)
    go (inr h) later = let f = later h in (suc f.0, f.1)

-- what is read of a slice that is this list
pub read_at : {X : Type 0} (xs ys : List X) → xs ≡ ys → (k : ℕ) (x : X) → k < length xs → x ≡ get_or xs k x → slice_get ys k ≡ Some x
read_at xs ys same k x within is = subst (λ zs. slice_get zs k ≡ Some x) same (slice_get_read xs (length xs) k x refl within is)

-- ---- an entry that gets another value

pub put_changed : {X : Type 0} (es : List (FullNodeId × X)) (id : FullNodeId) (v : X) → IsSome (at es id) → Put id (Some v) (at es) (at (set_value (is_at (full_cmp id)) es v))
put_changed es id v there q = lookup-set_value (eq_by_cmp_equiv full_total) (is_at (full_cmp id)) (λ x y same. ap (λ k. is_at (full_cmp k) y) (same_key id x same)) q v es there

-- ---- a loop over rows: the first so many are done

-- what ascends is read where it stands
pub read_here : {X : Type 0} (es : List (FullNodeId × X)) → Ascends es → (k : ℕ) (e : FullNodeId × X) → slice_get es k ≡ Some e → at es e.0 ≡ Some e.1
read_here es sorted k e is = lookup_from_place (eq_by_cmp_equiv full_total) es k e.0 e.1 (IsDistinct-from_sorted full_cmp (keys_of es) sorted) is

pub read_step : {X : Type 0} (es : List (FullNodeId × X)) → Ascends es → (xs : List (FullNodeId × X)) → xs ≡ es → (n : ℕ) (d : FullNodeId × X) → n < length xs → at es (get_or xs n d).0 ≡ Some (get_or xs n d).1
read_step {X} es sorted xs all n d inside =
    let lt : n < length es = subst (λ (ys : List (FullNodeId × X)). n < length ys) all inside in
    subst (λ (ys : List (FullNodeId × X)). at es (get_or ys n d).0 ≡ Some (get_or ys n d).1) (sym all) (read_here es sorted n (get_or es n d) (slice_get-get_or es n d lt))

module _ {X : Type 0} (es : List (FullNodeId × X)) (D : FullNodeId → X → Type 0) where
  abbrev pub AreDone : ℕ → Type 0
  AreDone n = (k : ℕ) (e : FullNodeId × X) → k < n → slice_get es k ≡ Some e → D e.0 e.1

  pub done_next : (n : ℕ) (e : FullNodeId × X) → slice_get es n ≡ Some e → AreDone n → D e.0 e.1 → AreDone (n + 1)
  done_next n e here done now k f lt is = ⊎_elim
      (λ less. done k f less is)
      (λ ge. let same : k ≡ n = omega arith in subst (λ (x : FullNodeId × X). D x.0 x.1) (same_Some e f (sym here ∙ subst (λ j. slice_get es j ≡ Some f) same is)) now)
      (cases_lt k n)

  -- the entry that a loop reads
  pub done_step : (xs : List (FullNodeId × X)) → xs ≡ es → (n : ℕ) (d : FullNodeId × X) → n < length xs → AreDone n → D (get_or xs n d).0 (get_or xs n d).1 → AreDone (n + 1)
  done_step xs all n d inside done now =
      let lt : n < length es = subst (λ (ys : List (FullNodeId × X)). n < length ys) all inside in
      done_next n (get_or es n d) (slice_get-get_or es n d lt) done (subst (λ (ys : List (FullNodeId × X)). D (get_or ys n d).0 (get_or ys n d).1) all now)

  pub none_done : AreDone 0
  none_done k e lt = absurd (omega (arith, lt))

  pub done_weaker : (n : ℕ) → AreDone n → (E : FullNodeId → X → Type 0) → ((c : FullNodeId) (x : X) → D c x → E c x) → (k : ℕ) (e : FullNodeId × X) → k < n → slice_get es k ≡ Some e → E e.0 e.1
  done_weaker n done E more k e lt is = more e.0 e.1 (done k e lt is)

  pub done_each : (n : ℕ) → length es ≤ n → AreDone n → (id : FullNodeId) (x : X) → Contains es (id, x) → D id x
  done_each n fits done id x there =
      let f = at_contains es (id, x) there in
      done f.0 (id, x) (let lt = slice_get_within es f.0 (id, x) f.1 in omega arith) f.1

  pub done_all : (n : ℕ) → length es ≤ n → AreDone n → (id : FullNodeId) (x : X) → at es id ≡ Some x → D id x
  done_all n fits done id x is = done_each n fits done id x (contains_from_row_at es id x is)

-- ---- an empty set

pub empty_has : (s : BTreeSet FullNodeId) → s.keys ≡ [] → (id : FullNodeId) → ¬ (has s id)
empty_has s none id h = let f : list_any (is_at (full_cmp id)) s.keys ≡ false = ap (λ ks. list_any (is_at (full_cmp id)) ks) none in cc
