-- Ids and names are told apart, and a name is found at the one index that it has.
use Rattle.std.proofs.Common.{IsSome, ◌≡◌, ◌≢◌, ℕ, zero, suc, ◌+◌, Bool, true, false, not, cond, List, [], ◌∷◌, length, position, slice_get, ltb, Option, Some, None, option_map, ◌⊎◌, inl, inr, ⊎_elim, refl, sym, ap, ◌∙◌, subst, arith}
use Rattle.std.specs.List.{position_or_len}
use Rattle.std.specs.Ordering.{nat_cmp, is_eq}
use Rattle.std.specs.Cmp.Lexicographic.{slice_cmp}
use Rattle.std.specs.declared.cmp.Ordering.{Ordering}
use Rattle.std.specs.declared.cmp.Ordering.TheVariants.{Less, Equal, Greater}
use Rattle.std.proofs.lemmas.Bool.{cases_Bool, cases_eq, lt-ltb, le-ltb, ltb-true, ltb-false, both_ways}
use Rattle.std.proofs.lemmas.Option.{same_Some}
use Rattle.std.proofs.lemmas.Cmp.{tied_itself}
use Rattle.std.proofs.lemmas.Map.Lookups.{exact_bytes}
use Rattle.std.specs.Cmp.Lexicographic.{nat_list_cmp_total}
use Rattle.schema.specs.declared.TreeId.{TreeId}
use Rattle.model.specs.declared.FullNodeId.{FullNodeId}
use Rattle.model.specs.World.{World, Place, index_of}

pub same_id : (a b : FullNodeId) → a.tree ≡ b.tree → a.node ≡ b.node → a ≡ b
same_id a b t n = λ i. record { tree = t i; node = n i }

pub cases_id : (a b : FullNodeId) → (a ≡ b) ⊎ (a ≢ b)
cases_id a b = go (cases_eq a.tree b.tree) (cases_eq a.node.0 b.node.0)
  where
    go : (a.tree ≡ b.tree) ⊎ (a.tree ≡ b.tree → ⊥) → (a.node.0 ≡ b.node.0) ⊎ (a.node.0 ≡ b.node.0 → ⊥) → (a ≡ b) ⊎ (a ≢ b)
    go (inl t) (inl n) = inl (λ i. record { tree = t i; node = record { 0 = n i } })
    go (inr t) n = inr (λ e. t (ap (λ x. x.tree) e))
    go (inl t) (inr n) = inr (λ e. n (ap (λ x. x.node.0) e))

pub cases_place : (p q : Place) → (p ≡ q) ⊎ (p ≢ q)
cases_place p q = go (cases_id p.0 q.0) (cases_eq p.1 q.1)
  where
    go : (p.0 ≡ q.0) ⊎ (p.0 ≢ q.0) → (p.1 ≡ q.1) ⊎ (p.1 ≡ q.1 → ⊥) → (p ≡ q) ⊎ (p ≢ q)
    go (inl a) (inl b) = inl (λ i. (a i, b i))
    go (inr a) b = inr (λ e. a (ap (λ x. x.0) e))
    go (inl a) (inr b) = inr (λ e. b (ap (λ x. x.1) e))

-- an option holds something or not
pub cases_some : {A : Type 0} (o : Option A) → IsSome o ⊎ (IsSome o → ⊥)
cases_some None = inr (λ h. cc)
cases_some (Some x) = inl refl

-- what can't be otherwise is so
pub certain : {P : Type 0} → (P ⊎ (P → ⊥)) → ((P → ⊥) → ⊥) → P
certain (inl p) h = p
certain (inr n) h = absurd (h n)

-- whether two names are one
abbrev pub is_name : TreeId → TreeId → Bool
is_name name k = is_eq (slice_cmp nat_cmp k.0 name.0)

pub is_name-true : (name k : TreeId) → is_name name k ≡ true → k ≡ name
is_name-true name k e = λ i. record { 0 = exact_bytes k.0 name.0 (equal (slice_cmp nat_cmp k.0 name.0) e) i }
  where
    equal : (o : Ordering) → is_eq o ≡ true → o ≡ Equal
    equal Less e = cc
    equal Equal e = refl
    equal Greater e = cc

pub is_name-itself : (name : TreeId) → is_name name name ≡ true
is_name-itself name = ap is_eq (tied_itself nat_list_cmp_total name.0)

split : (b : Bool) (k n : ℕ) → cond (ltb (cond (not b) (1 + k) 0) (suc n)) (Some (cond (not b) (1 + k) 0)) None ≡ cond b (Some 0) (option_map suc (cond (ltb k n) (Some k) None))
split true k n = rw (lt-ltb 0 (suc n) (omega arith))
split false k n = go (cases_Bool (ltb k n))
  where
    go : (ltb k n ≡ true) ⊎ (ltb k n ≡ false) → cond (ltb (1 + k) (suc n)) (Some (1 + k)) None ≡ option_map suc (cond (ltb k n) (Some k) None)
    go (inl e) = rw (e, lt-ltb (1 + k) (suc n) (omega (arith, ltb-true k n e))) (ap Some (omega arith))
    go (inr e) = rw (e, le-ltb (1 + k) (suc n) (omega (arith, ltb-false k n e)))

pub cases_name : (a b : TreeId) → (a ≡ b) ⊎ (a ≢ b)
cases_name a b = ⊎_elim (λ e. inl (is_name-true b a e)) (λ e. inr (λ same. both_ways (is_name b a) e (ap (is_name b) same ∙ is_name-itself b))) (cases_Bool (is_name b a))

module _ {X : Type 0} (p : X → Bool) where
  pub position-cons : (x : X) (xs : List X) → position p (x ∷ xs) ≡ cond (p x) (Some 0) (option_map suc (position p xs))
  position-cons x xs = split (p x) (position_or_len p xs) (length xs)

  pub position_gives : (xs : List X) (i : ℕ) → position p xs ≡ Some i → (x : X) × (slice_get xs i ≡ Some x) × (p x ≡ true)
  position_gives [] i e = cc
  position_gives (x ∷ xs) i e = go (p x) (position p xs) i refl (λ j. position_gives xs j) (sym (position-cons x xs) ∙ e)
    where
      go : (b : Bool) (o : Option ℕ) (i : ℕ) → p x ≡ b → ((j : ℕ) → o ≡ Some j → (y : X) × (slice_get xs j ≡ Some y) × (p y ≡ true)) → cond b (Some 0) (option_map suc o) ≡ Some i → (y : X) × (slice_get (x ∷ xs) i ≡ Some y) × (p y ≡ true)
      go true o zero is below e = (x, refl, is)
      go true o (suc i) is below e = absurd (omega (arith, same_Some 0 (suc i) e))
      go false None i is below e = cc
      go false (Some j) i is below e = let f = below j refl in (f.0, subst (λ k. slice_get (x ∷ xs) k ≡ Some f.0) (same_Some (suc j) i e) f.1, f.2)

  pub position_none : (xs : List X) (i : ℕ) (x : X) → position p xs ≡ None → slice_get xs i ≡ Some x → p x ≡ false
  position_none [] i x e at = cc
  position_none (y ∷ ys) i x e at = go (p y) (position p ys) i refl (λ j. position_none ys j x) (sym (position-cons y ys) ∙ e) at
    where
      go : (b : Bool) (o : Option ℕ) (i : ℕ) → p y ≡ b → ((j : ℕ) → o ≡ None → slice_get ys j ≡ Some x → p x ≡ false) → cond b (Some 0) (option_map suc o) ≡ None → slice_get (y ∷ ys) i ≡ Some x → p x ≡ false
      go true o i is below e at = cc
      go false (Some j) i is below e at = cc
      go false None zero is below e at = ap p (sym (same_Some y x at)) ∙ is
      go false None (suc i) is below e at = below i refl at

-- at an index that a name has, it stands
pub known-index_of : (w : World) (name : TreeId) (i : ℕ) → index_of w name ≡ Some i → slice_get w.known i ≡ Some name
known-index_of w name i e =
    let f = position_gives (is_name name) w.known i e in
    f.1 ∙ ap Some (is_name-true name f.0 f.2)

-- a name without an index isn't known
pub unknown-index_of : (w : World) (name : TreeId) (i : ℕ) → index_of w name ≡ None → slice_get w.known i ≡ Some name → ⊥
unknown-index_of w name i e at = both_ways (is_name name name) (position_none (is_name name) w.known i name e at) (is_name-itself name)

-- each name is known once
abbrev pub IsKnownOnce : List TreeId → Type 0
IsKnownOnce known = (i j : ℕ) (name : TreeId) → slice_get known i ≡ Some name → slice_get known j ≡ Some name → i ≡ j

-- where a name stands, it has its index
pub index_of-known : (w : World) (name : TreeId) (i : ℕ) → IsKnownOnce w.known → slice_get w.known i ≡ Some name → index_of w name ≡ Some i
index_of-known w name i once at = go (index_of w name) refl
  where
    go : (o : Option ℕ) → index_of w name ≡ o → index_of w name ≡ Some i
    go None e = absurd (unknown-index_of w name i e at)
    go (Some j) e = e ∙ ap Some (once j i name (known-index_of w name j e) at)

-- two names with one index are one
pub index_of_once : (w : World) (a b : TreeId) (i : ℕ) → index_of w a ≡ Some i → index_of w b ≡ Some i → a ≡ b
index_of_once w a b i e f = same_Some a b (sym (known-index_of w a i e) ∙ known-index_of w b i f)
