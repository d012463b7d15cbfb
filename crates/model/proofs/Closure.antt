-- What can be reached along finitely many edges is decided.
use Rattle.std.proofs.Common.{◌≡◌, List, [], ◌∷◌, ◌⊎◌, inl, inr, ⊎_elim, sym, subst}

abbrev pub IsDecided : Type 0 → Type 0
IsDecided P = P ⊎ (P → ⊥)

pub decide_both : {P Q : Type 0} → IsDecided P → IsDecided Q → IsDecided (P × Q)
decide_both (inl p) (inl q) = inl (p, q)
decide_both (inr p) q = inr (λ h. p h.0)
decide_both (inl p) (inr q) = inr (λ h. q h.1)

pub decide_by : {P Q : Type 0} → (P → Q) → (Q → P) → IsDecided P → IsDecided Q
decide_by to from (inl p) = inl (to p)
decide_by to from (inr p) = inr (λ q. p (from q))

-- the edges of x go from source x to each a with Target x a
module _ {A X : Type 0} (source : X → A) (Target : X → A → Type 0) where
  abbrev pub IsEdge : List X → A → A → Type 0
  IsEdge [] p q = ⊥
  IsEdge (x ∷ xs) p q = ((source x ≡ p) × Target x q) ⊎ IsEdge xs p q

  pub data Path (xs : List X) (P : A → Type 0) : A → Type 0 where
    start : (a : A) → P a → Path xs P a
    step : (p q : A) → Path xs P p → IsEdge xs p q → Path xs P q

  none : (P : A → Type 0) (a : A) → Path [] P a → P a
  none P a (start a' p) = p
  none P a (step p q path edge) = absurd edge

  more : (x : X) (xs : List X) (P : A → Type 0) (a : A) → Path xs P a → Path (x ∷ xs) P a
  more x xs P a (start a' p) = start a p
  more x xs P a (step p q path edge) = step p a (more x xs P p path) (inr edge)

  through : (x : X) (xs : List X) (P : A → Type 0) (a : A) → Path xs P (source x) → Path xs (Target x) a → Path (x ∷ xs) P a
  through x xs P a to (start a' t) = step (source x) a (more x xs P (source x) to) (inl ((λ i. source x), t))
  through x xs P a to (step p q path edge) = step p a (through x xs P p to path) (inr edge)

  -- a path uses x's edges or not; after the last use, it goes on without them
  parted : (x : X) (xs : List X) (P : A → Type 0) (a : A) → Path (x ∷ xs) P a → Path xs P a ⊎ (Path xs P (source x) × Path xs (Target x) a)
  parted x xs P a (start a' p) = inl (start a p)
  parted x xs P a (step p q path edge) = go edge (parted x xs P p path)
    where
      go : ((source x ≡ p) × Target x a) ⊎ IsEdge xs p a → Path xs P p ⊎ (Path xs P (source x) × Path xs (Target x) p) → Path xs P a ⊎ (Path xs P (source x) × Path xs (Target x) a)
      go (inl e) (inl before) = inr (subst (Path xs P) (sym e.0) before, start a e.1)
      go (inl e) (inr before) = inr (before.0, start a e.1)
      go (inr e) (inl before) = inl (step p a before e)
      go (inr e) (inr before) = inr (before.0, step p a before.1 e)

  pub decide_path : ((x : X) (a : A) → IsDecided (Target x a)) → (xs : List X) (P : A → Type 0) → ((a : A) → IsDecided (P a)) → (a : A) → IsDecided (Path xs P a)
  decide_path targets [] P starts a = decide_by (start a) (none P a) (starts a)
  decide_path targets (x ∷ xs) P starts a =
      go (decide_path targets xs P starts a) (decide_both (decide_path targets xs P starts (source x)) (decide_path targets xs (Target x) (targets x) a))
    where
      go : IsDecided (Path xs P a) → IsDecided (Path xs P (source x) × Path xs (Target x) a) → IsDecided (Path (x ∷ xs) P a)
      go (inl p) d = inl (more x xs P a p)
      go (inr n) (inl d) = inl (through x xs P a d.0 d.1)
      go (inr n) (inr m) = inr (λ path. ⊎_elim n m (parted x xs P a path))
