-- The nearest mark of a word past or before a position of a flat text, run by run.
use Rattle.std.proofs.Common.{◌≡◌, ℕ, zero, suc, ◌+◌, ◌-◌, ◌<◌, ◌≤◌, Bool, true, false, cond, Option, Some, None, List, [], ◌∷◌, ◌++◌, length, map, get_or, take, drop, refl, sym, ap, ◌∙◌, arith, add-one, reverse}
use Rattle.std.specs.Prelude.{nat_lt, find, unwrap_or, if◌then◌else◌, slice_index, slice_get, option_map}
use Rattle.std.specs.Option.{option_or}
use Rattle.std.specs.List.{flat_map}
use Rattle.std.proofs.Math.Seq.{drop-cons, take-suc}
use Rattle.std.proofs.Math.ListN.{drop_of_length-le}
use Rattle.std.proofs.lemmas.Bool.{le-ltb, lt-ltb, ltb-false, ltb-true}
use Rattle.std.proofs.lemmas.List.{append-nil, append_assoc, reverse-append, take-append-drop}
use Rattle.std.proofs.lemmas.List.Folds.{find-append}
use Rattle.std.proofs.lemmas.List.FromFn.{get_or-range_with_len, length-range_with_len}
use Rattle.std.proofs.lemmas.Grind.{flat_map-append}
use Rattle.model.specs.FlatText.{FlatText, count_in, start_of, offset, Position, start_at, end_at, document_start, document_end, run_numbers, begins_paragraph, words_in, word_marks_in, word_marks}
use Rattle.model.specs.TextLaws.{IsWhole}
use Rattle.model.specs.Moves.{forward_to_word_start, backward_to_word_start}
use Rattle.model.proofs.Text.TextFacts.{start_next}
use Rattle.model.proofs.Text.Sides.{start_rises, IsOnStartSide, IsOnEndSide}

-- ---- searches in lists

reverse-cons : {X : Type 0} (x : X) (xs : List X) → reverse (x ∷ xs) ≡ reverse xs ++ x ∷ []
reverse-cons x xs = reverse-append (x ∷ []) xs

or_none : {X : Type 0} (o : Option X) → option_or o None ≡ o
or_none None = refl
or_none (Some x) = refl

module _ {X : Type 0} (p : X → Bool) where
  -- the last that passes
  abbrev pub find_last : List X → Option X
  find_last xs = find p (reverse xs)

  last_cons : (x : X) (xs : List X) → find_last (x ∷ xs) ≡ option_or (find_last xs) (cond (p x) (Some x) None)
  last_cons x xs = ap (find p) (reverse-cons x xs) ∙ find-append p (reverse xs) (x ∷ [])

  last_append : (xs ys : List X) → find_last (xs ++ ys) ≡ option_or (find_last ys) (find_last xs)
  last_append xs ys = ap (find p) (reverse-append xs ys) ∙ find-append p (reverse ys) (reverse xs)

module _ {A X : Type 0} (g : A → X) (p : X → Bool) where
  by_head : (a : A) (b : Bool) (o : Option X) (q : Option A) → o ≡ option_map g q → cond b (Some (g a)) o ≡ option_map g (cond b (Some a) q)
  by_head a true o q e = refl
  by_head a false o q e = e

  find_mapped : (xs : List A) → find p (map g xs) ≡ option_map g (find (λ a. p (g a)) xs)
  find_mapped [] = refl
  find_mapped (x ∷ xs) = by_head x (p (g x)) (find p (map g xs)) (find (λ a. p (g a)) xs) (find_mapped xs)

  by_last : (a : A) (b : Bool) (q : Option A) → option_or (option_map g q) (cond b (Some (g a)) None) ≡ option_map g (option_or q (cond b (Some a) None))
  by_last a true None = refl
  by_last a false None = refl
  by_last a b (Some x) = refl

  last_mapped : (xs : List A) → find_last p (map g xs) ≡ option_map g (find_last (λ a. p (g a)) xs)
  last_mapped [] = refl
  last_mapped (x ∷ xs) =
      last_cons p (g x) (map g xs)
      ∙ ap (λ o. option_or o (cond (p (g x)) (Some (g x)) None)) (last_mapped xs)
      ∙ by_last x (p (g x)) (find_last (λ a. p (g a)) xs)
      ∙ ap (option_map g) (sym (last_cons (λ a. p (g a)) x xs))

module _ (p : ℕ → Bool) where
  first_fails : (xs : List ℕ) → ((k : ℕ) → k < length xs → p (slice_index xs k) ≡ false) → find p xs ≡ None
  first_fails [] h = refl
  first_fails (x ∷ xs) h = ap (λ b. cond b (Some x) (find p xs)) (h 0 (omega arith)) ∙ first_fails xs (λ k l. h (suc k) (omega (arith, l)))

  first_passes : (xs : List ℕ) → ((k : ℕ) → k < length xs → p (slice_index xs k) ≡ true) → find p xs ≡ slice_get xs 0
  first_passes [] h = refl
  first_passes (x ∷ xs) h = ap (λ b. cond b (Some x) (find p xs)) (h 0 (omega arith))

  last_fails : (xs : List ℕ) → ((k : ℕ) → k < length xs → p (slice_index xs k) ≡ false) → find_last p xs ≡ None
  last_fails [] h = refl
  last_fails (x ∷ xs) h =
      last_cons p x xs ∙ ap (λ b. option_or (find_last p xs) (cond b (Some x) None)) (h 0 (omega arith)) ∙ or_none (find_last p xs) ∙ last_fails xs (λ k l. h (suc k) (omega (arith, l)))

  module _ (q : ℕ → Bool) where
    last_same : (xs : List ℕ) → ((k : ℕ) → k < length xs → p (slice_index xs k) ≡ q (slice_index xs k)) → find_last p xs ≡ find_last q xs
    last_same [] h = refl
    last_same (x ∷ xs) h =
        last_cons p x xs
        ∙ ap (λ b. option_or (find_last p xs) (cond b (Some x) None)) (h 0 (omega arith))
        ∙ ap (λ o. option_or o (cond (q x) (Some x) None)) (last_same xs (λ k l. h (suc k) (omega (arith, l))))
        ∙ sym (last_cons q x xs)

same_lt : (a b c d : ℕ) → (a < b → c < d) → (c < d → a < b) → nat_lt a b ≡ nat_lt c d
same_lt a b c d f g = go (nat_lt a b) refl (nat_lt c d) refl
  where
    go : (x : Bool) → nat_lt a b ≡ x → (y : Bool) → nat_lt c d ≡ y → nat_lt a b ≡ nat_lt c d
    go true e true h = e ∙ sym h
    go true e false h = absurd (let l = f (ltb-true a b e) in let over = ltb-false c d h in omega (arith, l, over))
    go false e true h = absurd (let l = g (ltb-true c d h) in let over = ltb-false a b e in omega (arith, l, over))
    go false e false h = e ∙ sym h

-- ---- marks run by run

module _ (t : FlatText) where
  abbrev at_index : ℕ → ℕ → Position
  at_index r i = record { run = r; index = i }

  -- where a paragraph begins with the run
  abbrev pub begun : ℕ → List Position
  begun k = if begins_paragraph t k then start_at k ∷ [] else []

  abbrev worded : ℕ → List Position
  worded k = map (λ i. record { run = k; index = i }) (words_in t k)

  -- the marks from a run on, and those up to one
  abbrev pub marks_from : ℕ → List Position
  marks_from k = flat_map (word_marks_in t) (drop k (run_numbers t))

  abbrev pub marks_upto : ℕ → List Position
  marks_upto k = flat_map (word_marks_in t) (take k (run_numbers t))

  number : (k : ℕ) → k < length t → get_or (run_numbers t) k 0 ≡ k
  number k h = let e = get_or-range_with_len 0 (length t) k 0 h in omega (arith, e)

  within : (k : ℕ) → k < length t → k < length (run_numbers t)
  within k h = omega (arith, h, length-range_with_len 0 (length t))

  from_next : (k : ℕ) → k < length t → marks_from k ≡ word_marks_in t k ++ marks_from (k + 1)
  from_next k h =
      ap (flat_map (word_marks_in t)) (drop-cons (run_numbers t) k 0 (within k h))
      ∙ ap (λ x. word_marks_in t x ++ flat_map (word_marks_in t) (drop (suc k) (run_numbers t))) (number k h)
      ∙ ap (λ j. word_marks_in t k ++ flat_map (word_marks_in t) (drop j (run_numbers t))) (sym (add-one k))

  from_end : (k : ℕ) → length t ≤ k → marks_from k ≡ []
  from_end k h = ap (flat_map (word_marks_in t)) (drop_of_length-le (run_numbers t) (let e : length (run_numbers t) ≤ k = omega (arith, h, length-range_with_len 0 (length t)) in e))

  upto_next : (k : ℕ) → k < length t → marks_upto (k + 1) ≡ marks_upto k ++ word_marks_in t k
  upto_next k h =
      ap (λ j. flat_map (word_marks_in t) (take j (run_numbers t))) (add-one k)
      ∙ ap (flat_map (word_marks_in t)) (take-suc (run_numbers t) k 0 (within k h))
      ∙ flat_map-append (word_marks_in t) (take k (run_numbers t)) (get_or (run_numbers t) k 0 ∷ [])
      ∙ ap (λ xs. marks_upto k ++ xs) (append-nil (word_marks_in t (get_or (run_numbers t) k 0)))
      ∙ ap (λ x. marks_upto k ++ word_marks_in t x) (number k h)

  all_marks : (k : ℕ) → word_marks t ≡ marks_upto k ++ marks_from k
  all_marks k = ap (flat_map (word_marks_in t)) (sym (take-append-drop k (run_numbers t))) ∙ flat_map-append (word_marks_in t) (take k (run_numbers t)) (drop k (run_numbers t))

  -- ---- forwards

  module _ (o : ℕ) where
    abbrev pub above : Position → Bool
    above q = nat_lt o (offset t q)

    begun_below : (k : ℕ) → start_of t k ≤ o → find above (begun k) ≡ None
    begun_below k low = go (begins_paragraph t k)
      where
        go : (b : Bool) → find above (if b then start_at k ∷ [] else []) ≡ None
        go true = ap (λ b. cond b (Some (start_at k)) None) (le-ltb o (start_of t k + 0) (omega (arith, low)))
        go false = refl

    in_run : (k : ℕ) → find above (word_marks_in t k) ≡ option_or (find above (begun k)) (option_map (at_index k) (find (λ i. nat_lt o (start_of t k + i)) (words_in t k)))
    in_run k = find-append above (begun k) (worded k) ∙ ap (option_or (find above (begun k))) (find_mapped (at_index k) above (words_in t k))

    -- in the run of the position
    in_own : (k i : ℕ) → o ≡ start_of t k + i → find above (word_marks_in t k) ≡ option_map (at_index k) (find (λ w. nat_lt i w) (words_in t k))
    in_own k i e =
        in_run k ∙ ap (λ x. option_or x (option_map (at_index k) (find (λ w. nat_lt o (start_of t k + w)) (words_in t k)))) (begun_below k (omega (arith, e)))
        ∙ ap (λ f. option_map (at_index k) (find f (words_in t k))) (λ j w. same_lt o (start_of t k + w) i w (λ l. omega (arith, e, l)) (λ l. omega (arith, e, l)) j)

    module _ (whole : IsWhole t) where
      in_earlier : (k : ℕ) → start_of t (k + 1) ≤ o → find above (word_marks_in t k) ≡ None
      in_earlier k low =
          in_run k
          ∙ ap (λ x. option_or x (option_map (at_index k) (find (λ w. nat_lt o (start_of t k + w)) (words_in t k)))) (begun_below k (omega (arith, low, start_next t k)))
          ∙ ap (option_map (at_index k)) (first_fails (λ w. nat_lt o (start_of t k + w)) (words_in t k)
          (λ n l. le-ltb o (start_of t k + slice_index (words_in t k) n) (let fits = whole.words_within k n l in omega (arith, fits, low, start_next t k))))

      in_later : (k : ℕ) → o < start_of t k → find above (word_marks_in t k) ≡ slice_get (word_marks_in t k) 0
      in_later k high =
          in_run k ∙ go (begins_paragraph t k)
        where
          words_pass : find (λ w. nat_lt o (start_of t k + w)) (words_in t k) ≡ slice_get (words_in t k) 0
          words_pass = first_passes (λ w. nat_lt o (start_of t k + w)) (words_in t k) (λ n l. lt-ltb o (start_of t k + slice_index (words_in t k) n) (omega (arith, high)))

          head : (ws : List ℕ) → option_map (at_index k) (slice_get ws 0) ≡ slice_get (map (at_index k) ws) 0
          head [] = refl
          head (w ∷ ws) = refl

          go : (b : Bool) → option_or (find above (if b then start_at k ∷ [] else [])) (option_map (at_index k) (find (λ w. nat_lt o (start_of t k + w)) (words_in t k)))
              ≡ slice_get ((if b then start_at k ∷ [] else []) ++ worded k) 0
          go true = ap (λ b. option_or (cond b (Some (start_at k)) None) (option_map (at_index k) (find (λ w. nat_lt o (start_of t k + w)) (words_in t k)))) (lt-ltb o (start_of t k + 0) (omega (arith, high)))
          go false = ap (option_map (at_index k)) words_pass ∙ head (words_in t k)

      past_earlier : (k : ℕ) → k ≤ length t → start_of t k ≤ o → find above (word_marks t) ≡ find above (marks_from k)
      past_earlier zero le low = refl
      past_earlier (suc k) le low =
          let next : start_of t (k + 1) ≡ start_of t (suc k) = ap (start_of t) (add-one k) in
          let here : k < length t = omega (arith, le) in
          past_earlier k (omega (arith, le)) (omega (arith, low, next, start_next t k))
          ∙ ap (find above) (from_next k here)
          ∙ find-append above (word_marks_in t k) (marks_from (k + 1))
          ∙ ap (λ x. option_or x (find above (marks_from (k + 1)))) (in_earlier k (omega (arith, low, next)))
          ∙ ap (λ j. find above (marks_from j)) (add-one k)

  -- ---- backwards

  module _ (o : ℕ) where
    abbrev pub under : Position → Bool
    under q = nat_lt (offset t q) o

    -- a paragraph that begins with the run, where that begins below the offset
    last_begun : (k : ℕ) → (b : Bool) → begins_paragraph t k ≡ b → (c : Bool) → under (start_at k) ≡ c → find_last under (begun k) ≡ (if b then cond c (Some (start_at k)) None else None)
    last_begun k true e c f = ap (λ b. find_last under (if b then start_at k ∷ [] else [])) e ∙ ap (λ x. cond x (Some (start_at k)) None) f
    last_begun k false e c f = ap (λ b. find_last under (if b then start_at k ∷ [] else [])) e

    none_begun : (k : ℕ) → o ≤ start_of t k → find_last under (begun k) ≡ None
    none_begun k high = go (begins_paragraph t k)
      where
        go : (b : Bool) → find_last under (if b then start_at k ∷ [] else []) ≡ None
        go true = ap (λ b. cond b (Some (start_at k)) None) (le-ltb (start_of t k + 0) o (omega (arith, high)))
        go false = refl

    later_run : (k : ℕ) → o ≤ start_of t k → find_last under (word_marks_in t k) ≡ None
    later_run k high =
        last_append under (begun k) (worded k)
        ∙ ap (option_or (find_last under (worded k))) (none_begun k high)
        ∙ or_none (find_last under (worded k))
        ∙ last_mapped (at_index k) under (words_in t k)
        ∙ ap (option_map (at_index k)) (last_fails (λ w. nat_lt (start_of t k + w) o) (words_in t k) (λ n l. le-ltb (start_of t k + slice_index (words_in t k) n) o (omega (arith, high))))

    -- none of the runs from one on has a mark below
    later_fail : (d k : ℕ) → length t ≤ k + d → o ≤ start_of t k → find_last under (marks_from k) ≡ None
    later_fail zero k over high = ap (find_last under) (from_end k (omega (arith, over)))
    later_fail (suc d) k over high = later_step k high (later_fail d (k + 1) (omega (arith, over)) (let up = start_rises t k (k + 1) (omega arith) in omega (arith, up, high))) (nat_lt k (length t)) refl
      where
        later_step : (k : ℕ) → o ≤ start_of t k → find_last under (marks_from (k + 1)) ≡ None → (b : Bool) → nat_lt k (length t) ≡ b → find_last under (marks_from k) ≡ None
        later_step k high rest true e =
            ap (find_last under) (from_next k (ltb-true k (length t) e))
            ∙ last_append under (word_marks_in t k) (marks_from (k + 1))
            ∙ ap (λ x. option_or x (find_last under (word_marks_in t k))) rest
            ∙ later_run k high
        later_step k high rest false e = ap (find_last under) (from_end k (ltb-false k (length t) e))

    upto_enough : (k : ℕ) → o ≤ start_of t k → find_last under (word_marks t) ≡ find_last under (marks_upto k)
    upto_enough k high =
        ap (find_last under) (all_marks k) ∙ last_append under (marks_upto k) (marks_from k)
        ∙ ap (λ x. option_or x (find_last under (marks_upto k))) (later_fail (length t) k (omega arith) high)

    -- the words of a run come before its beginning
    words_first : (k : ℕ) → k < length t → find_last under (marks_upto (k + 1)) ≡ option_or (option_map (at_index k) (find_last (λ w. nat_lt (start_of t k + w) o) (words_in t k))) (find_last under (marks_upto k ++ begun k))
    words_first k h =
        ap (find_last under) (upto_next k h ∙ sym (append_assoc (marks_upto k) (begun k) (worded k)))
        ∙ last_append under (marks_upto k ++ begun k) (worded k)
        ∙ ap (λ x. option_or x (find_last under (marks_upto k ++ begun k))) (last_mapped (at_index k) under (words_in t k))

    begun_passes : (k : ℕ) → start_of t k < o → begins_paragraph t k ≡ true → find_last under (marks_upto k ++ begun k) ≡ Some (start_at k)
    begun_passes k low e =
        last_append under (marks_upto k) (begun k)
        ∙ ap (λ x. option_or x (find_last under (marks_upto k))) (last_begun k true e true (lt-ltb (start_of t k + 0) o (omega (arith, low))))

    not_begun : (k : ℕ) → begins_paragraph t k ≡ false → find_last under (marks_upto k ++ begun k) ≡ find_last under (marks_upto k)
    not_begun k e =
        last_append under (marks_upto k) (begun k)
        ∙ ap (λ x. option_or x (find_last under (marks_upto k))) (last_begun k false e (under (start_at k)) refl)

    own_words : (k i : ℕ) → o ≡ start_of t k + i → find_last (λ w. nat_lt (start_of t k + w) o) (words_in t k) ≡ find_last (λ w. nat_lt w i) (words_in t k)
    own_words k i e = ap (λ f. find_last f (words_in t k)) (λ j w. same_lt (start_of t k + w) o w i (λ l. omega (arith, e, l)) (λ l. omega (arith, e, l)) j)

    earlier_words : IsWhole t → (k : ℕ) → start_of t (k + 1) ≤ o → find_last (λ w. nat_lt (start_of t k + w) o) (words_in t k) ≡ find_last (λ w. nat_lt w (count_in t k)) (words_in t k)
    earlier_words whole k low = last_same (λ w. nat_lt (start_of t k + w) o) (λ w. nat_lt w (count_in t k)) (words_in t k)
        (λ n l. let fits = whole.words_within k n l in
        lt-ltb (start_of t k + slice_index (words_in t k) n) o (omega (arith, fits, low, start_next t k)) ∙ sym (lt-ltb (slice_index (words_in t k) n) (count_in t k) fits))

  paragraph_first : (k : ℕ) → begins_paragraph t k ≡ true → slice_get (word_marks_in t k) 0 ≡ Some (start_at k)
  paragraph_first k e = ap (λ b. slice_get ((if b then start_at k ∷ [] else []) ++ worded k) 0) e

  word_first : (k : ℕ) → begins_paragraph t k ≡ false → slice_get (word_marks_in t k) 0 ≡ option_map (at_index k) (slice_get (words_in t k) 0)
  word_first k e = ap (λ b. slice_get ((if b then start_at k ∷ [] else []) ++ worded k) 0) e ∙ go (words_in t k)
    where
      go : (ws : List ℕ) → slice_get (map (at_index k) ws) 0 ≡ option_map (at_index k) (slice_get ws 0)
      go [] = refl
      go (w ∷ ws) = refl

-- ---- the search of a move by word, from a position on

module _ (t : FlatText) (p : Position) where
  -- the next mark, if there is one, is in the runs after this one
  pub record IsPast (k : ℕ) : Type 0 where
    pub sought : forward_to_word_start t p ≡ unwrap_or (find (above t (offset t p)) (marks_from t (k + 1))) (document_end t)
    pub past : k + 1 < length t → offset t p < start_of t (k + 1)

  -- the last mark below, if there is one, is in the runs before this one or at its start
  pub record IsBack (k : ℕ) : Type 0 where
    pub sought : backward_to_word_start t p ≡ unwrap_or (find_last (under t (offset t p)) (marks_upto t k ++ begun t k)) document_start
    pub past : 0 < k → start_of t k < offset t p

module _ (t : FlatText) (whole : IsWhole t) (p : Position) where
  module _ (side : IsOnStartSide t p) where
    own_after : forward_to_word_start t p
        ≡ unwrap_or (option_or (option_map (at_index t p.run) (find (λ w. nat_lt p.index w) (words_in t p.run))) (find (above t (offset t p)) (marks_from t (p.run + 1)))) (document_end t)
    own_after =
        let o = offset t p in
        let here : p.run < length t = side.run in
        ap (λ x. unwrap_or x (document_end t))
        (past_earlier t o whole p.run (omega (arith, here)) (omega arith)
        ∙ ap (find (above t o)) (from_next t p.run here)
        ∙ find-append (above t o) (word_marks_in t p.run) (marks_from t (p.run + 1))
        ∙ ap (λ x. option_or x (find (above t o) (marks_from t (p.run + 1)))) (in_own t o p.run p.index refl))

    pub word_after_found : (w : ℕ) → Some w ≡ find (λ v. nat_lt p.index v) (words_in t p.run) → (let q : Position = record { run = p.run; index = w } in q) ≡ forward_to_word_start t p
    word_after_found w e =
        sym (own_after ∙ ap (λ x. unwrap_or (option_or (option_map (at_index t p.run) x) (find (above t (offset t p)) (marks_from t (p.run + 1)))) (document_end t)) (sym e))

    pub none_after_found : None ≡ find (λ v. nat_lt p.index v) (words_in t p.run) → IsPast t p p.run
    none_after_found e = record {
      sought = own_after ∙ ap (λ x. unwrap_or (option_or (option_map (at_index t p.run) x) (find (above t (offset t p)) (marks_from t (p.run + 1)))) (document_end t)) (sym e);
      past = λ more. let within = side.within more in omega (arith, within, start_next t p.run);
    }

  module _ (k : ℕ) (is : IsPast t p k) where
    pub past_all : k + 1 ≡ length t → end_at t k ≡ forward_to_word_start t p
    past_all e =
        let last : length t - 1 ≡ k = omega (arith, e) in
        sym (is.sought ∙ ap (λ x. unwrap_or (find (above t (offset t p)) x) (document_end t)) (from_end t (k + 1) (omega (arith, e))) ∙ ap (end_at t) last)

    module _ (more : k + 1 < length t) where
      next_after : forward_to_word_start t p ≡ unwrap_or (option_or (slice_get (word_marks_in t (k + 1)) 0) (find (above t (offset t p)) (marks_from t (k + 1 + 1)))) (document_end t)
      next_after =
          let o = offset t p in
          is.sought
          ∙ ap (λ x. unwrap_or x (document_end t))
          (ap (find (above t o)) (from_next t (k + 1) more)
          ∙ find-append (above t o) (word_marks_in t (k + 1)) (marks_from t (k + 1 + 1))
          ∙ ap (λ x. option_or x (find (above t o) (marks_from t (k + 1 + 1)))) (in_later t o whole (k + 1) (is.past more)))

      settled_after : (q : Position) → slice_get (word_marks_in t (k + 1)) 0 ≡ Some q → q ≡ forward_to_word_start t p
      settled_after q e = sym (next_after ∙ ap (λ x. unwrap_or (option_or x (find (above t (offset t p)) (marks_from t (k + 1 + 1)))) (document_end t)) e)

      pub paragraph_after : begins_paragraph t (k + 1) ≡ true → start_at (k + 1) ≡ forward_to_word_start t p
      paragraph_after e = settled_after (start_at (k + 1)) (paragraph_first t (k + 1) e)

      pub first_after : begins_paragraph t (k + 1) ≡ false → (w : ℕ) → Some w ≡ slice_get (words_in t (k + 1)) 0 → (let q : Position = record { run = k + 1; index = w } in q) ≡ forward_to_word_start t p
      first_after e w f = settled_after (record { run = k + 1; index = w }) (word_first t (k + 1) e ∙ ap (option_map (at_index t (k + 1))) (sym f))

      pub past_next : begins_paragraph t (k + 1) ≡ false → None ≡ slice_get (words_in t (k + 1)) 0 → IsPast t p (k + 1)
      past_next e f = record {
        sought = next_after ∙ ap (λ x. unwrap_or (option_or x (find (above t (offset t p)) (marks_from t (k + 1 + 1)))) (document_end t)) (word_first t (k + 1) e ∙ ap (option_map (at_index t (k + 1))) (sym f));
        past = λ further. let low = is.past more in let up = start_rises t (k + 1) (k + 1 + 1) (omega arith) in omega (arith, low, up);
      }

  module _ (side : IsOnEndSide t p) where
    own_before : backward_to_word_start t p
        ≡ unwrap_or (option_or (option_map (at_index t p.run) (find_last (λ w. nat_lt w p.index) (words_in t p.run))) (find_last (under t (offset t p)) (marks_upto t p.run ++ begun t p.run))) document_start
    own_before =
        let o = offset t p in
        let index : p.index ≤ count_in t p.run = side.index in
        ap (λ x. unwrap_or x document_start)
        (upto_enough t o (p.run + 1) (omega (arith, index, start_next t p.run))
        ∙ words_first t o p.run side.run
        ∙ ap (λ x. option_or (option_map (at_index t p.run) x) (find_last (under t o) (marks_upto t p.run ++ begun t p.run))) (own_words t o p.run p.index refl))

    pub word_before_found : (w : ℕ) → Some w ≡ find_last (λ v. nat_lt v p.index) (words_in t p.run) → (let q : Position = record { run = p.run; index = w } in q) ≡ backward_to_word_start t p
    word_before_found w e =
        sym (own_before ∙ ap (λ x. unwrap_or (option_or (option_map (at_index t p.run) x) (find_last (under t (offset t p)) (marks_upto t p.run ++ begun t p.run))) document_start) (sym e))

    pub none_before_found : None ≡ find_last (λ v. nat_lt v p.index) (words_in t p.run) → IsBack t p p.run
    none_before_found e = record {
      sought = own_before ∙ ap (λ x. unwrap_or (option_or (option_map (at_index t p.run) x) (find_last (under t (offset t p)) (marks_upto t p.run ++ begun t p.run))) document_start) (sym e);
      past = λ later. let some = side.past later in omega (arith, some);
    }

  module _ (k : ℕ) (is : IsBack t p k) where
    pub back_all : k ≡ 0 → start_at k ≡ backward_to_word_start t p
    back_all e =
        let at : start_at k ≡ document_start = ap start_at e in
        at ∙ go (under t (offset t p) (start_at 0)) ∙ sym (is.sought ∙ ap (λ j. unwrap_or (find_last (under t (offset t p)) (marks_upto t j ++ begun t j)) document_start) e)
      where
        go : (b : Bool) → document_start ≡ unwrap_or (cond b (Some (start_at 0)) None) document_start
        go true = refl
        go false = refl

    pub paragraph_before : 0 < k → begins_paragraph t k ≡ true → start_at k ≡ backward_to_word_start t p
    paragraph_before later e = sym (is.sought ∙ ap (λ x. unwrap_or x document_start) (begun_passes t (offset t p) k (is.past later) e))

    module _ (j : ℕ) (at : j + 1 ≡ k) (inside : k < length t) (e : begins_paragraph t k ≡ false) where
      low : start_of t (j + 1) < offset t p
      low = let l = is.past (omega (arith, at)) in omega (arith, l, ap (start_of t) at)

      next_before : backward_to_word_start t p
          ≡ unwrap_or (option_or (option_map (at_index t j) (find_last (λ w. nat_lt w (count_in t j)) (words_in t j))) (find_last (under t (offset t p)) (marks_upto t j ++ begun t j))) document_start
      next_before =
          let o = offset t p in
          is.sought
          ∙ ap (λ x. unwrap_or x document_start)
          (not_begun t o k e ∙ ap (λ i. find_last (under t o) (marks_upto t i)) (sym at)
          ∙ words_first t o j (omega (arith, at, inside))
          ∙ ap (λ x. option_or (option_map (at_index t j) x) (find_last (under t o) (marks_upto t j ++ begun t j))) (earlier_words t o whole j (let l = low in omega (arith, l))))

      pub last_before : (w : ℕ) → Some w ≡ find_last (λ v. nat_lt v (count_in t j)) (words_in t j) → (let q : Position = record { run = j; index = w } in q) ≡ backward_to_word_start t p
      last_before w f =
          sym (next_before ∙ ap (λ x. unwrap_or (option_or (option_map (at_index t j) x) (find_last (under t (offset t p)) (marks_upto t j ++ begun t j))) document_start) (sym f))

      pub back_previous : None ≡ find_last (λ v. nat_lt v (count_in t j)) (words_in t j) → IsBack t p j
      back_previous f = record {
        sought = next_before ∙ ap (λ x. unwrap_or (option_or (option_map (at_index t j) x) (find_last (under t (offset t p)) (marks_upto t j ++ begun t j))) document_start) (sym f);
        past = λ later. let l = low in let up = start_rises t j (j + 1) (omega arith) in omega (arith, l, up);
      }
