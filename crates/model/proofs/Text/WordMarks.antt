-- The marks of words are the positions where words begin.
use Rattle.std.proofs.Common.{◌≡◌, ℕ, zero, suc, ◌+◌, ◌<◌, ◌≤◌, Bool, true, false, cond, Option, Some, None, reverse, List, [], ◌∷◌, ◌++◌, length, map, get_or, ◌⊎◌, inl, inr, refl, sym, ap, subst, ◌∙◌, arith}
use Rattle.std.specs.Prelude.{nat_lt, find, unwrap_or, ◌==◌, ◌&&◌, ◌||◌, if◌then◌else◌, slice_index, IsTrue}
use Rattle.std.specs.List.{Contains, flat_map, list_any, range_with_len}
use Rattle.std.proofs.lemmas.Bool.{eqb-true, ltb-true, ltb-false, lt-ltb}
use Rattle.std.proofs.lemmas.List.{reverse-append}
use Rattle.std.specs.Bool.{⊤}
use Rattle.std.specs.List.Sorted.{IsStrictlyIncreasing}
use Rattle.std.proofs.lemmas.List.FromFn.{get_or-range_with_len, length-range_with_len}
use Rattle.model.specs.FlatText.{FlatText, count_in, start_of, offset, Position, IsPosition, start_at, document_start, document_end, run_numbers, begins_paragraph, words_in, word_marks_in, word_marks, is_paragraph_start, is_word_start}
use Rattle.model.specs.TextLaws.{IsWhole, MarksAreWordStarts, IsNearestAbove, IsNearestBelow, WordStartIsNearest, WordStartBeforeIsNearest}
use Rattle.model.specs.Moves.{forward_to_word_start, backward_to_word_start}
use Rattle.model.proofs.Text.TextFacts.{start_next}
use Rattle.model.proofs.Text.Sides.{start_rises}
use Rattle.model.proofs.Text.Indexes.{eq_same}
use Rattle.model.proofs.Members.{contains_none, contains_head, contains_later, contains_cases}

-- ---- elements of lists

module _ {X : Type 0} where
  in_both : (xs ys : List X) (y : X) → Contains (xs ++ ys) y → Contains xs y ⊎ Contains ys y
  in_both [] ys y h = inr h
  in_both (x ∷ xs) ys y h = elim (contains_cases x y (xs ++ ys) h) [
    | inl e ↦ inl (contains_head x y xs e)
    | inr later ↦ elim (in_both xs ys y later) [ inl a ↦ inl (contains_later x y xs a) | inr b ↦ inr b ]
  ]

  in_first : (xs ys : List X) (y : X) → Contains xs y → Contains (xs ++ ys) y
  in_first [] ys y h = absurd (contains_none y h)
  in_first (x ∷ xs) ys y h = elim (contains_cases x y xs h) [ inl e ↦ contains_head x y (xs ++ ys) e | inr later ↦ contains_later x y (xs ++ ys) (in_first xs ys y later) ]

  in_second : (xs ys : List X) (y : X) → Contains ys y → Contains (xs ++ ys) y
  in_second [] ys y h = h
  in_second (x ∷ xs) ys y h = contains_later x y (xs ++ ys) (in_second xs ys y h)

module _ {A X : Type 0} (f : A → List X) where
  in_one : (ns : List A) (y : X) → Contains (flat_map f ns) y → (n : A) × Contains ns n × Contains (f n) y
  in_one [] y h = absurd (contains_none y h)
  in_one (n ∷ ns) y h = elim (in_both (f n) (flat_map f ns) y h) [
    | inl a ↦ (n, contains_head n n ns refl, a)
    | inr b ↦ let r = in_one ns y b in (r.0, contains_later n r.0 ns r.1, r.2)
  ]

  in_all : (ns : List A) (n : A) (y : X) → Contains ns n → Contains (f n) y → Contains (flat_map f ns) y
  in_all [] n y h k = absurd (contains_none n h)
  in_all (m ∷ ns) n y h k = elim (contains_cases m n ns h) [
    | inl e ↦ in_first (f m) (flat_map f ns) y (subst (λ a. Contains (f a) y) (sym e) k)
    | inr later ↦ in_second (f m) (flat_map f ns) y (in_all ns n y later k)
  ]

module _ {A X : Type 0} (g : A → X) where
  of_mapped : (ns : List A) (y : X) → Contains (map g ns) y → (n : A) × Contains ns n × (g n ≡ y)
  of_mapped [] y h = absurd (contains_none y h)
  of_mapped (n ∷ ns) y h = elim (contains_cases (g n) y (map g ns) h) [
    | inl e ↦ (n, contains_head n n ns refl, e)
    | inr later ↦ let r = of_mapped ns y later in (r.0, contains_later n r.0 ns r.1, r.2)
  ]

  in_mapped : (ns : List A) (n : A) → Contains ns n → Contains (map g ns) (g n)
  in_mapped [] n h = absurd (contains_none n h)
  in_mapped (m ∷ ns) n h = elim (contains_cases m n ns h) [
    | inl e ↦ contains_head (g m) (g n) (map g ns) (ap g e)
    | inr later ↦ contains_later (g m) (g n) (map g ns) (in_mapped ns n later)
  ]

any_default : (xs : List ℕ) (k a b : ℕ) → k < length xs → get_or xs k a ≡ get_or xs k b
any_default [] k a b h = absurd (omega arith)
any_default (x ∷ xs) zero a b h = refl
any_default (x ∷ xs) (suc k) a b h = any_default xs k a b (omega arith)

in_range : (n k : ℕ) → k < n → Contains (range_with_len 0 n) k
in_range n k h = (k, omega (arith, h, length-range_with_len 0 n), (let e = get_or-range_with_len 0 n k k h in omega (arith, e)))

of_range : (n k : ℕ) → Contains (range_with_len 0 n) k → k < n
of_range n k h =
    let less : h.0 < n = let l = h.1 in omega (arith, l, length-range_with_len 0 n) in
    let e = get_or-range_with_len 0 n h.0 k less in
    let is = h.2 in
    omega (arith, e, is, less)

any_of : (ws : List ℕ) (i : ℕ) → Contains ws i → list_any (λ j. j == i) ws ≡ true
any_of [] i h = absurd (contains_none i h)
any_of (w ∷ ws) i h = elim (contains_cases w i ws h) [
  | inl e ↦ ap (λ b. b || list_any (λ j. j == i) ws) (ap (λ n. n == i) e ∙ eq_same i)
  | inr later ↦ let rest = any_of ws i later in elim (w == i) as (λ b. (b || list_any (λ j. j == i) ws) ≡ true) [ true ↦ refl | false ↦ rest ]
]

of_any : (ws : List ℕ) (i : ℕ) → list_any (λ j. j == i) ws ≡ true → Contains ws i
of_any [] i e = cc
of_any (w ∷ ws) i e = go (w == i) refl e (of_any ws i)
  where
    go : (b : Bool) → (w == i) ≡ b → (b || list_any (λ j. j == i) ws) ≡ true → (list_any (λ j. j == i) ws ≡ true → Contains ws i) → Contains (w ∷ ws) i
    go true is h later = contains_head w i ws (eqb-true w i is)
    go false is h later = contains_later w i ws (later h)

-- ---- marks

module _ (t : FlatText) (whole : IsWhole t) where
  abbrev IsStart : Position → Type 0
  IsStart p = IsPosition t p × IsTrue (is_word_start t p)

  abbrev at_index : ℕ → ℕ → Position
  at_index r i = record { run = r; index = i }

  if_begins : (r : ℕ) (p : Position) → r < length t → (b : Bool) → begins_paragraph t r ≡ b → Contains (if b then start_at r ∷ [] else []) p → IsStart p
  if_begins r p h true e c =
      elim (contains_cases (start_at r) p [] c) [
        | inl is ↦ subst IsStart is (record { run = h; index = omega arith }, ap (λ b. b || list_any (λ j. j == 0) (words_in t r)) e)
        | inr none ↦ absurd (contains_none p none)
      ]
  if_begins r p h false e c = absurd (contains_none p c)

  started : (b c : Bool) → c ≡ true → (b || c) ≡ true
  started true c e = refl
  started false c e = e

  if_word : (r : ℕ) (p : Position) → r < length t → Contains (map (at_index r) (words_in t r)) p → IsStart p
  if_word r p h c =
      let m = of_mapped (at_index r) (words_in t r) p c in
      let low = whole.words_within r m.1.0 m.1.1 in
      let same = any_default (words_in t r) m.1.0 0 m.0 m.1.1 in
      let is = m.1.2 in
      subst IsStart m.2 (record { run = h; index = omega (arith, low, same, is) }, started (is_paragraph_start t (at_index r m.0)) (list_any (λ j. j == m.0) (words_in t r)) (any_of (words_in t r) m.0 m.1))

  pub marks_are_starts : (p : Position) → Contains (word_marks t) p → IsStart p
  marks_are_starts p c =
      let m = in_one (word_marks_in t) (run_numbers t) p c in
      let h : m.0 < length t = of_range (length t) m.0 m.1 in
      elim (in_both (if begins_paragraph t m.0 then start_at m.0 ∷ [] else []) _ p m.2) [
        | inl a ↦ if_begins m.0 p h (begins_paragraph t m.0) refl a
        | inr b ↦ if_word m.0 p h b
      ]

  -- a start of a paragraph is the start of its run, and another start of a word is one that was sent
  by_paragraph : (p : Position) → is_paragraph_start t p ≡ true → Contains (if begins_paragraph t p.run then start_at p.run ∷ [] else []) p
  by_paragraph p e = go (p.index == 0) refl (begins_paragraph t p.run) e
    where
      go : (a : Bool) → (p.index == 0) ≡ a → (b : Bool) → (a && b) ≡ true → Contains (if b then start_at p.run ∷ [] else []) p
      go true is true h = let index : p.index ≡ 0 = eqb-true p.index 0 is in contains_head (start_at p.run) p [] (λ i. record { run = p.run; index = sym index i })
      go true is false h = cc
      go false is b h = cc

  pub starts_are_marks : (p : Position) → IsStart p → Contains (word_marks t) p
  starts_are_marks p is = in_all (word_marks_in t) (run_numbers t) p.run p (in_range (length t) p.run (let r = is.0 in r.run)) (go (is_paragraph_start t p) refl is.1)
    where
      go : (b : Bool) → is_paragraph_start t p ≡ b → (b || list_any (λ j. j == p.index) (words_in t p.run)) ≡ true → Contains (word_marks_in t p.run) p
      go true e h = in_first (if begins_paragraph t p.run then start_at p.run ∷ [] else []) (map (at_index p.run) (words_in t p.run)) p (by_paragraph p e)
      go false e h = in_second (if begins_paragraph t p.run then start_at p.run ∷ [] else []) (map (at_index p.run) (words_in t p.run)) p (in_mapped (at_index p.run) (words_in t p.run) p.index (of_any (words_in t p.run) p.index h))

pub word_marks_are_starts : MarksAreWordStarts
word_marks_are_starts = λ t whole p. (marks_are_starts t whole p, starts_are_marks t whole p)

-- ---- the first of a rising list that passes a test

module _ {X : Type 0} (R : X → X → Type 0) where
  -- each is related to all later ones
  abbrev pub Rises : List X → Type 0
  Rises [] = ⊤
  Rises (x ∷ xs) = ((y : X) → Contains xs y → R x y) × Rises xs

  rises_both : (xs ys : List X) → Rises xs → Rises ys → ((x y : X) → Contains xs x → Contains ys y → R x y) → Rises (xs ++ ys)
  rises_both [] ys a b h = b
  rises_both (x ∷ xs) ys a b h = (
    λ y c. elim (in_both xs ys y c) [ inl d ↦ a.0 y d | inr d ↦ h x y (contains_head x x xs refl) d ],
    rises_both xs ys a.1 b (λ z y c d. h z y (contains_later x z xs c) d),
  )

  module _ (test : X → Bool) where
    first_passes : (xs : List X) (q : X) → find test xs ≡ Some q → (test q ≡ true) × Contains xs q
    first_passes [] q e = cc
    first_passes (x ∷ xs) q e = go (test x) refl e (λ f. first_passes xs q f)
      where
        go : (b : Bool) → test x ≡ b → cond b (Some x) (find test xs) ≡ Some q → (find test xs ≡ Some q → (test q ≡ true) × Contains xs q) → (test q ≡ true) × Contains (x ∷ xs) q
        go true is e rest = let same : x ≡ q = cc in (ap test (sym same) ∙ is, contains_head x q xs same)
        go false is e rest = let r = rest e in (r.0, contains_later x q xs r.1)

    first_is_least : (xs : List X) (q : X) → find test xs ≡ Some q → Rises xs → (m : X) → Contains xs m → test m ≡ true → (q ≡ m) ⊎ R q m
    first_is_least [] q e up m c p = cc
    first_is_least (x ∷ xs) q e up m c p = go (test x) refl e (λ f d. first_is_least xs q f up.1 m d p)
      where
        go : (b : Bool) → test x ≡ b → cond b (Some x) (find test xs) ≡ Some q → (find test xs ≡ Some q → Contains xs m → (q ≡ m) ⊎ R q m) → (q ≡ m) ⊎ R q m
        go true is e rest =
            let same : x ≡ q = cc in
            elim (contains_cases x m xs c) [ inl f ↦ inl (sym same ∙ f) | inr later ↦ inr (subst (λ z. R z m) same (up.0 m later)) ]
        go false is e rest =
            elim (contains_cases x m xs c) [
              | inl f ↦ absurd (let no : false ≡ true = sym is ∙ ap test f ∙ p in cc)
              | inr later ↦ rest e later
            ]

    none_passes : (xs : List X) → find test xs ≡ None → (m : X) → Contains xs m → test m ≡ false
    none_passes [] e m c = absurd (contains_none m c)
    none_passes (x ∷ xs) e m c = go (test x) refl e (λ f d. none_passes xs f m d)
      where
        go : (b : Bool) → test x ≡ b → cond b (Some x) (find test xs) ≡ None → (find test xs ≡ None → Contains xs m → test m ≡ false) → test m ≡ false
        go true is e rest = cc
        go false is e rest = elim (contains_cases x m xs c) [ inl f ↦ ap test (sym f) ∙ is | inr later ↦ rest e later ]

reverse-cons : {X : Type 0} (x : X) (xs : List X) → reverse (x ∷ xs) ≡ reverse xs ++ x ∷ []
reverse-cons x xs = reverse-append (x ∷ []) xs

module _ {X : Type 0} (R : X → X → Type 0) where
  turned_has : (xs : List X) (y : X) → Contains (reverse xs) y → Contains xs y
  turned_has [] y c = c
  turned_has (x ∷ xs) y c = elim (in_both (reverse xs) (x ∷ []) y (subst (λ l. Contains l y) (reverse-cons x xs) c)) [
    | inl a ↦ contains_later x y xs (turned_has xs y a)
    | inr b ↦ elim (contains_cases x y [] b) [ inl e ↦ contains_head x y xs e | inr none ↦ absurd (contains_none y none) ]
  ]

  in_turned : (xs : List X) (y : X) → Contains xs y → Contains (reverse xs) y
  in_turned [] y c = c
  in_turned (x ∷ xs) y c = subst (λ l. Contains l y) (sym (reverse-cons x xs)) (elim (contains_cases x y xs c) as (λ _. Contains (reverse xs ++ x ∷ []) y) [
    | inl e ↦ in_second (reverse xs) (x ∷ []) y (contains_head x y [] e)
    | inr later ↦ in_first (reverse xs) (x ∷ []) y (in_turned xs y later)
  ])

  turned_rises : (xs : List X) → Rises R xs → Rises (λ a b. R b a) (reverse xs)
  turned_rises [] up = tt
  turned_rises (x ∷ xs) up =
      subst (Rises (λ a b. R b a)) (sym (reverse-cons x xs))
      (rises_both (λ a b. R b a) (reverse xs) (x ∷ []) (turned_rises xs up.1) ((λ y c. absurd (contains_none y c)), tt)
      (λ a b c d. elim (contains_cases x b [] d) [ inl e ↦ subst (λ z. R z a) e (up.0 a (turned_has xs a c)) | inr none ↦ absurd (contains_none b none) ]))

-- ---- the marks rise by their offsets

module _ (t : FlatText) (whole : IsWhole t) where
  abbrev IsUpTo : Position → Position → Type 0
  IsUpTo p q = offset t p ≤ offset t q

  -- a mark lies in its run
  in_run : (r : ℕ) (y : Position) → r < length t → Contains (word_marks_in t r) y → (y.run ≡ r) × (y.index ≤ count_in t r)
  in_run r y h c = elim (in_both (if begins_paragraph t r then start_at r ∷ [] else []) (map (at_index t whole r) (words_in t r)) y c) [
    | inl a ↦ by_begin (begins_paragraph t r) a
    | inr b ↦ let m = of_mapped (at_index t whole r) (words_in t r) y b in
        let low = whole.words_within r m.1.0 m.1.1 in
        let same = any_default (words_in t r) m.1.0 0 m.0 m.1.1 in
        let is = m.1.2 in
        (sym (ap (λ q. q.run) m.2), (let i = ap (λ q. q.index) m.2 in omega (arith, low, same, is, i)))
  ]
    where
      by_begin : (b : Bool) → Contains (if b then start_at r ∷ [] else []) y → (y.run ≡ r) × (y.index ≤ count_in t r)
      by_begin true a = elim (contains_cases (start_at r) y [] a) [
        | inl e ↦ (sym (ap (λ q. q.run) e), (let i = ap (λ q. q.index) e in omega (arith, i)))
        | inr none ↦ absurd (contains_none y none)
      ]
      by_begin false a = absurd (contains_none y a)

  tail_rises : (w : ℕ) (ws : List ℕ) → IsStrictlyIncreasing (w ∷ ws) → IsStrictlyIncreasing ws
  tail_rises w ws up = λ k h. let e : suc k + 1 ≡ suc (k + 1) = omega arith in subst (λ n. slice_index (w ∷ ws) (suc k) < slice_index (w ∷ ws) n) e (up (suc k) (omega (arith, h)))

  low_head : (w : ℕ) (ws : List ℕ) → IsStrictlyIncreasing (w ∷ ws) → (i : ℕ) → Contains ws i → w ≤ i
  low_head w [] up i c = absurd (contains_none i c)
  low_head w (v ∷ vs) up i c =
      let first = up 0 (omega arith) in
      elim (contains_cases v i vs c) [ inl e ↦ omega (arith, first, e) | inr later ↦ let rest = low_head v vs (tail_rises w (v ∷ vs) up) i later in omega (arith, first, rest) ]

  words_rise : (r : ℕ) (ws : List ℕ) → IsStrictlyIncreasing ws → Rises IsUpTo (map (at_index t whole r) ws)
  words_rise r [] up = tt
  words_rise r (w ∷ ws) up = (
    λ y c. let m = of_mapped (at_index t whole r) ws y c in let low = low_head w ws up m.0 m.1 in subst (IsUpTo (at_index t whole r w)) m.2 (omega (arith, low)),
    words_rise r ws (tail_rises w ws up),
  )

  run_rises : (r : ℕ) → Rises IsUpTo (word_marks_in t r)
  run_rises r = rises_both IsUpTo (if begins_paragraph t r then start_at r ∷ [] else []) (map (at_index t whole r) (words_in t r)) (alone (begins_paragraph t r)) (words_rise r (words_in t r) (whole.words_rise r))
      (λ x y c d. let m = of_mapped (at_index t whole r) (words_in t r) y d in begin_first (begins_paragraph t r) x c m.0 y m.2)
    where
      alone : (b : Bool) → Rises IsUpTo (if b then start_at r ∷ [] else [])
      alone true = ((λ y c. absurd (contains_none y c)), tt)
      alone false = tt

      begin_first : (b : Bool) (x : Position) → Contains (if b then start_at r ∷ [] else []) x → (i : ℕ) (y : Position) → at_index t whole r i ≡ y → IsUpTo x y
      begin_first true x c i y e = elim (contains_cases (start_at r) x [] c) [
        | inl f ↦ subst (λ z. IsUpTo z y) f (subst (IsUpTo (start_at r)) e (omega arith))
        | inr none ↦ absurd (contains_none x none)
      ]
      begin_first false x c i y e = absurd (contains_none x c)

  from_range : (a n k : ℕ) → Contains (range_with_len a n) k → (a ≤ k) × (k < a + n)
  from_range a n k c =
      let less : c.0 < n = let l = c.1 in omega (arith, l, length-range_with_len a n) in
      let e = get_or-range_with_len a n c.0 k less in
      let is = c.2 in
      (omega (arith, e, is, less), omega (arith, e, is, less))

  range_rises : (a n : ℕ) → a + n ≤ length t → Rises IsUpTo (flat_map (word_marks_in t) (range_with_len a n))
  range_rises a zero h = tt
  range_rises a (suc n) h =
      rises_both IsUpTo (word_marks_in t a) (flat_map (word_marks_in t) (range_with_len (a + 1) n)) (run_rises a) (range_rises (a + 1) n (omega (arith, h)))
      (λ x y c d.
      let m = in_one (word_marks_in t) (range_with_len (a + 1) n) y d in
      let r = from_range (a + 1) n m.0 m.1 in
      let low = r.0 in
      let high = r.1 in
      let one = in_run a x (omega (arith, h)) c in
      let other = in_run m.0 y (omega (arith, h, high)) m.2 in
      let index = one.1 in
      let up = start_rises t (a + 1) m.0 (omega (arith, low)) in
      omega (arith, index, up, start_next t a, ap (start_of t) one.0, ap (start_of t) other.0))

  pub marks_rise : Rises IsUpTo (word_marks t)
  marks_rise = range_rises 0 (length t) (omega arith)

  -- ---- a word move comes to the nearest start

  abbrev StartsWord : Position → Type 0
  StartsWord q = IsPosition t q × IsTrue (is_word_start t q)

  abbrev is_above : Position → Position → Bool
  is_above p q = nat_lt (offset t p) (offset t q)

  abbrev is_below : Position → Position → Bool
  is_below p q = nat_lt (offset t q) (offset t p)

  pub forward_is_nearest : (p : Position) → IsNearestAbove t StartsWord p (forward_to_word_start t p) ⊎ ((forward_to_word_start t p ≡ document_end t) × ((m : Position) → IsPosition t m → IsTrue (is_word_start t m) → offset t m ≤ offset t p))
  forward_is_nearest p = go (find (λ q. nat_lt (offset t p) (offset t q)) (word_marks t)) refl
    where
      go : (o : Option Position) → find (λ q. nat_lt (offset t p) (offset t q)) (word_marks t) ≡ o →
          IsNearestAbove t StartsWord p (unwrap_or o (document_end t)) ⊎ ((unwrap_or o (document_end t) ≡ document_end t) × ((m : Position) → IsPosition t m → IsTrue (is_word_start t m) → offset t m ≤ offset t p))
      go None e = inr (refl, λ m is starts. let f = ltb-false (offset t p) (offset t m) (none_passes IsUpTo (is_above p) (word_marks t) e m (starts_are_marks t whole m (is, starts))) in omega (arith, f))
      go (Some q) e =
          let passes = first_passes IsUpTo (is_above p) (word_marks t) q e in
          inl (record {
            mark = marks_are_starts t whole q passes.1;
            above = ltb-true (offset t p) (offset t q) passes.0;
            nearest = λ m is up. elim (first_is_least IsUpTo (is_above p) (word_marks t) q e marks_rise m (starts_are_marks t whole m is) (lt-ltb (offset t p) (offset t m) up)) [
              | inl same ↦ let s = ap (offset t) same in omega (arith, s)
              | inr less ↦ less
            ];
          })

  pub backward_is_nearest : (p : Position) → IsNearestBelow t StartsWord p (backward_to_word_start t p) ⊎ ((backward_to_word_start t p ≡ document_start) × ((m : Position) → IsPosition t m → IsTrue (is_word_start t m) → offset t p ≤ offset t m))
  backward_is_nearest p = go (find (λ q. nat_lt (offset t q) (offset t p)) (reverse (word_marks t))) refl
    where
      go : (o : Option Position) → find (λ q. nat_lt (offset t q) (offset t p)) (reverse (word_marks t)) ≡ o →
          IsNearestBelow t StartsWord p (unwrap_or o document_start) ⊎ ((unwrap_or o document_start ≡ document_start) × ((m : Position) → IsPosition t m → IsTrue (is_word_start t m) → offset t p ≤ offset t m))
      go None e = inr (refl, λ m is starts. let f = ltb-false (offset t m) (offset t p) (none_passes (λ a b. IsUpTo b a) (is_below p) (reverse (word_marks t)) e m (in_turned IsUpTo (word_marks t) m (starts_are_marks t whole m (is, starts)))) in omega (arith, f))
      go (Some q) e =
          let passes = first_passes (λ a b. IsUpTo b a) (is_below p) (reverse (word_marks t)) q e in
          inl (record {
            mark = marks_are_starts t whole q (turned_has IsUpTo (word_marks t) q passes.1);
            below = ltb-true (offset t q) (offset t p) passes.0;
            nearest = λ m is up. elim (first_is_least (λ a b. IsUpTo b a) (is_below p) (reverse (word_marks t)) q e (turned_rises IsUpTo (word_marks t) marks_rise) m (in_turned IsUpTo (word_marks t) m (starts_are_marks t whole m is)) (lt-ltb (offset t m) (offset t p) up)) [
              | inl same ↦ let s = ap (offset t) same in omega (arith, s)
              | inr less ↦ less
            ];
          })

pub word_start_is_nearest : WordStartIsNearest
word_start_is_nearest = λ t whole p is. forward_is_nearest t whole p

pub word_start_before_is_nearest : WordStartBeforeIsNearest
word_start_before_is_nearest = λ t whole p is. backward_is_nearest t whole p
