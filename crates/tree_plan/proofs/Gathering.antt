-- Spots that come to a list, one after another.
use Rattle.std.proofs.Common.{◌≡◌, ◌≢◌, ◌⊎◌, ⊎_elim, ℕ, ◌+◌, ◌-◌, ◌<◌, ◌≤◌, length, List, [], ◌∷◌, ◌++◌, get_or, slice_get, option_map, option_to_list, Contains, Option, Some, None, inl, inr, refl, sym, ap, subst, ◌∙◌, arith, length-append}
use Rattle.std.proofs.lemmas.Bool.{cases_lt}
use Rattle.std.proofs.lemmas.List.{append-nil, append_assoc, get_or_append_left, get_or-append_right}
use Rattle.std.proofs.lemmas.List.Elements.{Contains-append_left, Contains-append_right, Contains-append_cases, Contains-get_or}
use Rattle.std.proofs.lemmas.Option.{same_Some, slice_get_within}
use Rattle.model.specs.declared.FullNodeId.{FullNodeId}
use Rattle.model.specs.World.{Place}
use Rattle.model.specs.Surgery.{Seat}
use Rattle.model.proofs.Members.{contains_none, contains_head, contains_cases}
use Rattle.tree_plan.specs.Comparisons.{Spots, AreApart, Gathers, OnlyAt, OnlyIn, OnlyInBefore}

abbrev pub Found : Type 1
Found = FullNodeId → Seat → Type 0

-- two lists of which no entries are of one spot, within or across
pub apart_both : (xs ys : Spots) → AreApart xs → AreApart ys → ((x y : FullNodeId × Seat) → Contains xs x → Contains ys y → x.1 ≢ y.1) → AreApart (xs ++ ys)
apart_both xs ys a b across = λ i j d less fits. go i j d less (let long = length-append xs ys in let f : j < length (xs ++ ys) = fits in omega arith) (cases_lt j (length xs)) (cases_lt i (length xs))
  where
    front : (i : ℕ) (d : FullNodeId × Seat) → i < length xs → get_or (xs ++ ys) i d ≡ get_or xs i d
    front i d lt = get_or_append_left xs ys d i lt

    back : (i : ℕ) (d : FullNodeId × Seat) → length xs ≤ i → get_or (xs ++ ys) i d ≡ get_or ys (i - length xs) d
    back i d le = get_or-append_right xs ys (length xs) i d refl le

    go : (i j : ℕ) (d : FullNodeId × Seat) → i < j → j < length xs + length ys → (j < length xs) ⊎ (length xs ≤ j) → (i < length xs) ⊎ (length xs ≤ i) → (get_or (xs ++ ys) i d).1 ≢ (get_or (xs ++ ys) j d).1
    go i j d less fits (inl lt) i_at same = a i j d less lt (ap (λ x. x.1) (sym (front i d (omega arith))) ∙ same ∙ ap (λ x. x.1) (front j d lt))
    go i j d less fits (inr ge) (inl lt) same =
        across (get_or xs i d) (get_or ys (j - length xs) d) (Contains-get_or xs i d lt) (Contains-get_or ys (j - length xs) d (omega arith))
        (ap (λ x. x.1) (sym (front i d lt)) ∙ same ∙ ap (λ x. x.1) (back j d ge))
    go i j d less fits (inr ge) (inr le) same = b (i - length xs) (j - length xs) d (omega arith) (omega arith) (ap (λ x. x.1) (sym (back i d le)) ∙ same ∙ ap (λ x. x.1) (back j d ge))

pub apart_none : AreApart []
apart_none = λ i j d less fits. absurd (let f : j < 0 = fits in omega arith)

pub gathers_none : (P : Found) (f : Spots) → ((c : FullNodeId) (s : Seat) → P c s → ⊥) → Gathers P f f
gathers_none P f none = record {
  added = [];
  is = sym (append-nil f);
  found = λ c s. ((λ h. absurd (contains_none (c, s) h)), λ h. absurd (none c s h));
  once = apart_none;
}

-- one child at one spot
module _ (spot : Seat) (other : Option FullNodeId) where
  abbrev entry : FullNodeId → FullNodeId × Seat
  entry id = (id, spot)

  pub gathers_one : (this : Option FullNodeId) (f g : Spots) → other ≢ this → g ≡ f ++ option_to_list (option_map (λ id. (id, spot)) this) → Gathers (OnlyAt spot this other) f g
  gathers_one None f g apart is = record {
    added = [];
    is = is;
    found = λ c s. ((λ h. absurd (contains_none (c, s) h)), λ h. let no : None ≡ Some c = h.1.0 in cc);
    once = apart_none;
  }
  gathers_one (Some child) f g apart is = record {
    added = (child, spot) ∷ [];
    is = is;
    found = λ c s. (to c s, from c s);
    once = λ i j d less fits. absurd (let f' : j < 1 = fits in omega arith);
  }
    where
      to : (c : FullNodeId) (s : Seat) → Contains {X = FullNodeId × Seat} ((child, spot) ∷ []) (c, s) → OnlyAt spot (Some child) other c s
      to c s h = ⊎_elim
          (λ same. let key : child ≡ c = ap (λ x. x.0) same in (sym (ap (λ x. x.1) same), (ap Some key, λ e. apart (e ∙ sym (ap Some key)))))
          (λ later. absurd (contains_none (c, s) later))
          (contains_cases (entry child) (c, s) [] h)

      from : (c : FullNodeId) (s : Seat) → OnlyAt spot (Some child) other c s → Contains {X = FullNodeId × Seat} ((child, spot) ∷ []) (c, s)
      from c s h =
          let key : child ≡ c = same_Some child c h.1.0 in
          let pair : Seat → FullNodeId × Seat = λ t. (c, t) in
          contains_head (entry child) (c, s) [] (ap entry key ∙ ap pair (sym h.0))

-- what P finds, and then what Q finds
module _ (P Q R : Found) (from : (c : FullNodeId) (s : Seat) → R c s → P c s ⊎ Q c s) (left : (c : FullNodeId) (s : Seat) → P c s → R c s) (right : (c : FullNodeId) (s : Seat) → Q c s → R c s)
    (apart : (c d : FullNodeId) (s t : Seat) → P c s → Q d t → s ≢ t) (f g h : Spots) where
  pub gathers_both : Gathers P f g → Gathers Q g h → Gathers R f h
  gathers_both a b = record {
    added = a.added ++ b.added;
    is = b.is ∙ ap (λ xs. xs ++ b.added) a.is ∙ append_assoc f a.added b.added;
    found = λ c s. (
      (λ k. ⊎_elim (λ l. left c s ((a.found c s).0 l)) (λ r. right c s ((b.found c s).0 r)) (Contains-append_cases a.added b.added (c, s) k)),
      (λ k. ⊎_elim (λ p. Contains-append_left a.added b.added (c, s) ((a.found c s).1 p)) (λ q. Contains-append_right a.added b.added (c, s) ((b.found c s).1 q)) (from c s k)),
    );
    once = apart_both a.added b.added a.once b.once (λ x y l r. apart x.0 y.0 x.1 y.1 ((a.found x.0 x.1).0 l) ((b.found y.0 y.1).0 r));
  }

-- the same found in other words
pub gathers_same : (P Q : Found) → ((c : FullNodeId) (s : Seat) → P c s → Q c s) → ((c : FullNodeId) (s : Seat) → Q c s → P c s) → (f g : Spots) → Gathers P f g → Gathers Q f g
gathers_same P Q to from f g a = record { added = a.added; is = a.is; found = λ c s. ((λ h. to c s ((a.found c s).0 h)), λ q. (a.found c s).1 (from c s q)); once = a.once }

-- the lists of one parent, index by index
module _ (parent : FullNodeId) (this other : List FullNodeId) where
  pub none_at_zero : (c : FullNodeId) (s : Seat) → OnlyInBefore 0 parent this other c s → ⊥
  none_at_zero c s h = let lt : h.0 < 0 = h.1 in omega arith

  module _ (k : ℕ) where
    pub next_from : (c : FullNodeId) (s : Seat) → OnlyInBefore (k + 1) parent this other c s → OnlyInBefore k parent this other c s ⊎ OnlyAt (Some (parent, k)) (slice_get this k) (slice_get other k) c s
    next_from c s h = ⊎_elim (λ lt. inl (h.0, lt, h.2)) (λ e. inr (subst (λ j. OnlyAt (Some (parent, j)) (slice_get this j) (slice_get other j) c s) e h.2)) (last h.0 h.1)
      where
        last : (j : ℕ) → j < k + 1 → (j < k) ⊎ (j ≡ k)
        last j lt = ⊎_elim inl (λ ge. inr (omega arith)) (cases_lt j k)

    pub next_left : (c : FullNodeId) (s : Seat) → OnlyInBefore k parent this other c s → OnlyInBefore (k + 1) parent this other c s
    next_left c s h = (h.0, (let lt : h.0 < k = h.1 in omega arith), h.2)

    pub next_right : (c : FullNodeId) (s : Seat) → OnlyAt (Some (parent, k)) (slice_get this k) (slice_get other k) c s → OnlyInBefore (k + 1) parent this other c s
    next_right c s h = (k, omega arith, h)

    pub all_left : (c : FullNodeId) (s : Seat) → OnlyInBefore k parent this other c s → OnlyIn parent this other c s
    all_left c s h = (h.0, h.2)

    pub all_from : length this ≤ k → (c : FullNodeId) (s : Seat) → OnlyIn parent this other c s → OnlyInBefore k parent this other c s
    all_from fits c s h = (h.0, (let lt : h.0 < length this = slice_get_within this h.0 c h.1.1.0 in omega arith), h.1)

    pub next_apart : (c d : FullNodeId) (s t : Seat) → OnlyInBefore k parent this other c s → OnlyAt (Some (parent, k)) (slice_get this k) (slice_get other k) d t → s ≢ t
    next_apart c d s t h q same =
        let p : Place = (parent, h.0) in
        let r : Place = (parent, k) in
        let e : Some p ≡ Some r = sym h.2.0 ∙ same ∙ q.0 in
        let i : h.0 ≡ k = ap (λ (x : Place). x.1) (same_Some p r e) in
        let lt : h.0 < k = h.1 in
        omega arith

    -- what enters at this index, after what entered before it
    pub gathers_next : (f g h : Spots) → Gathers (OnlyInBefore k parent this other) f g → Gathers (OnlyAt (Some (parent, k)) (slice_get this k) (slice_get other k)) g h → Gathers (OnlyInBefore (k + 1) parent this other) f h
    gathers_next f g h before here = gathers_both (OnlyInBefore k parent this other) (OnlyAt (Some (parent, k)) (slice_get this k) (slice_get other k)) (OnlyInBefore (k + 1) parent this other) next_from next_left next_right next_apart f g h before here

    pub gathers_all : length this ≤ k → (f g : Spots) → Gathers (OnlyInBefore k parent this other) f g → Gathers (OnlyIn parent this other) f g
    gathers_all fits f g before = gathers_same (OnlyInBefore k parent this other) (OnlyIn parent this other) all_left (all_from fits) f g before
