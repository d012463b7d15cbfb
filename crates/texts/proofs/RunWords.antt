-- The words of a run as it is shown, and where a search for one comes to.
use Rattle.std.proofs.Common.{◌≡◌, ℕ, suc, ◌+◌, ◌<◌, ◌≤◌, Bool, true, false, cond, List, [], ◌∷◌, length, take, get_or, Option, Some, None, refl, sym, ap, subst, ◌∙◌, arith}
use Rattle.std.specs.Prelude.{nat_lt, find, reverse, slice_get, slice_index, if◌then◌else◌}
use Rattle.std.specs.Option.{option_map_or}
use Rattle.std.proofs.lemmas.Bool.{ltb-true, lt-ltb}
use Rattle.std.proofs.lemmas.List.{take_more, reverse-append}
use Rattle.model.specs.RoleClasses.{is_password_input}
use Rattle.model.specs.TextRuns.{said_count, is_password, supports_text_ranges}
use Rattle.model.specs.FlatText.{FlatText, ShownRun, Position, IsPosition, word_marks, count_in, start_at, end_at, words_in, begins_paragraph, biased_to_start, biased_to_end}
use Rattle.model.specs.Moves.{mark_above, mark_below, forward_to_word_start, backward_to_word_start}
use Rattle.model.specs.TextLaws.{IsWhole}
use Rattle.model.proofs.Text.TextFacts.{start_bias, end_bias}
use Rattle.model.proofs.Text.Sides.{IsOnStartSide, IsOnEndSide, start_bias_side, end_bias_side, start_side_is, end_side_is, start_side_of_bias, end_side_of_bias}
use Rattle.views.specs.declared.runs.Run.{Run}
use Rattle.texts.specs.declared.position.TextPosition.{TextPosition}
use Rattle.views.specs.Nodes.{world_at, id_at, data_at}
use Rattle.views.specs.Runs.{run_world, root_id, text_root_of, sent_of, ids_after, ids_before, IsAfter, IsPreviousRun}
use Rattle.text_boundaries.specs.RunNumbers.{number_in, text_around}
use Rattle.texts.specs.Positions.{IsPositionAt, root_at, node_text, position_text, flat_position}
use Rattle.texts.proofs.TextEnds.{then_at}
use Rattle.texts.proofs.CharacterMoves.{same_place}
use Rattle.text_boundaries.proofs.FlatRuns.{shown_at_number, count_at_number, runs_counted, last_number, first_number, number_next, more_runs, number_previous}
use Rattle.texts.proofs.FlatPositions.{text_is_whole, is_position}
use Rattle.texts.proofs.WordMarks.{IsPast, IsBack, past_all, paragraph_after, first_after, past_next, back_all, paragraph_before, last_before, back_previous}

-- ---- words

module _ (r : Run) where
  words_of : words_in (text_around r) (number_in r) ≡ (if is_password (run_world r) (root_id r) then [] else (sent_of r).node.word_starts)
  words_of = ap (λ o. option_map_or (λ (s : ShownRun). s.word_starts) o []) (shown_at_number r)

  by_role : is_password (run_world r) (root_id r) ≡ is_password_input (data_at (text_root_of r)).role
  by_role = ap (λ o. option_map_or (λ d. is_password_input d.role) o false) (text_root_of r).known

  pub no_words_shown : is_password_input (data_at (text_root_of r)).role ≡ true → [] ≡ words_in (text_around r) (number_in r)
  no_words_shown e = sym (words_of ∙ ap (λ b. if b then [] else (sent_of r).node.word_starts) (by_role ∙ e))

  pub words_shown : is_password_input (data_at (text_root_of r)).role ≡ false → (sent_of r).node.word_starts ≡ words_in (text_around r) (number_in r)
  words_shown e = sym (words_of ∙ ap (λ b. if b then [] else (sent_of r).node.word_starts) (by_role ∙ e))

-- ---- the last number below another

module _ (other : ℕ) (ns : List ℕ) (i x : ℕ) (found : Option ℕ) (within : i < length ns) (is : x ≡ get_or ns i x) (so_far : found ≡ find (λ k. nat_lt k other) (reverse (take i ns))) where
  one_more : find (λ k. nat_lt k other) (reverse (take (i + 1) ns)) ≡ cond (nat_lt x other) (Some x) found
  one_more =
      ap (λ xs. find (λ k. nat_lt k other) (reverse xs)) (take_more ns i x within)
      ∙ ap (find (λ k. nat_lt k other)) (reverse-append (take i ns) (get_or ns i x ∷ []))
      ∙ ap (λ y. cond (nat_lt y other) (Some y) (find (λ k. nat_lt k other) (reverse (take i ns)))) (sym is)
      ∙ ap (cond (nat_lt x other) (Some x)) (sym so_far)

  pub last_is_below : x < other → Some x ≡ find (λ k. nat_lt k other) (reverse (take (i + 1) ns))
  last_is_below l = sym (one_more ∙ ap (λ b. cond b (Some x) found) (lt-ltb x other l))

  pub last_is_not : other ≤ x → found ≡ find (λ k. nat_lt k other) (reverse (take (i + 1) ns))
  last_is_not l = sym (one_more ∙ ap (λ b. cond b (Some x) found) (go (nat_lt x other) refl))
    where
      go : (b : Bool) → nat_lt x other ≡ b → nat_lt x other ≡ false
      go true e = absurd (let m : x < other = ltb-true x other e in omega (arith, m, l))
      go false e = e

-- ---- numbers of a list that are below a bound

by_first : (n x w : ℕ) (o : Option ℕ) (b : Bool) → x < n → (Some w ≡ o → w < n) → Some w ≡ cond b (Some x) o → w < n
by_first n x w o true low rest f = let same : w ≡ x = cc in omega (arith, same, low)
by_first n x w o false low rest f = rest f

found_below : (test : ℕ → Bool) (n : ℕ) (xs : List ℕ) → ((k : ℕ) → k < length xs → slice_index xs k < n) → (w : ℕ) → Some w ≡ find test xs → w < n
found_below test n [] h w e = cc
found_below test n (x ∷ xs) h w e = by_first n x w (find test xs) (test x) (h 0 (omega arith)) (found_below test n xs (λ k l. h (suc k) (omega (arith, l))) w) e

first_below : (n : ℕ) (xs : List ℕ) → ((k : ℕ) → k < length xs → slice_index xs k < n) → (w : ℕ) → Some w ≡ slice_get xs 0 → w < n
first_below n [] h w e = cc
first_below n (x ∷ xs) h w e = let same : w ≡ x = cc in let low = h 0 (omega arith) in omega (arith, same, low)

by_test : (test : ℕ → Bool) (x w : ℕ) (o : Option ℕ) (b : Bool) → test x ≡ b → (Some w ≡ o → test w ≡ true) → Some w ≡ cond b (Some x) o → test w ≡ true
by_test test x w o true is rest f = let same : w ≡ x = cc in ap test same ∙ is
by_test test x w o false is rest f = rest f

found_passes : (test : ℕ → Bool) (xs : List ℕ) (w : ℕ) → Some w ≡ find test xs → test w ≡ true
found_passes test [] w e = cc
found_passes test (x ∷ xs) w e = by_test test x w (find test xs) (test x) refl (found_passes test xs w) e

-- ---- the search of a move by word, run by run

module _ (p : TextPosition) where
  abbrev t : FlatText
  t = position_text p

  abbrev q : Position
  q = flat_position p

  pub on_start : biased_to_start (position_text p) (flat_position p) ≡ flat_position p → IsOnStartSide (position_text p) (flat_position p)
  on_start e = subst (IsOnStartSide t) e (start_bias_side t q (text_is_whole p) (is_position p))

  pub on_end : biased_to_end (position_text p) (flat_position p) ≡ flat_position p → IsOnEndSide (position_text p) (flat_position p)
  on_end e = subst (IsOnEndSide t) e (end_bias_side t q (text_is_whole p) (is_position p))

  module _ (r : Run) (same : text_root_of r ≡ root_at p) where
    words_same : words_in (text_around r) (number_in r) ≡ words_in t (number_in r)
    words_same = ap (λ n. words_in (node_text n) (number_in r)) same

    count_same : count_in t (number_in r) ≡ said_count (sent_of r)
    count_same = ap (λ n. count_in (node_text n) (number_in r)) (sym same) ∙ count_at_number r

    length_same : length (text_around r) ≡ length t
    length_same = ap (λ n. length (node_text n)) same

    inside : number_in r < length t
    inside = let n = runs_counted r in omega (arith, n, length_same)

    low_words : (k : ℕ) → k < length (words_in t (number_in r)) → slice_index (words_in t (number_in r)) k < said_count (sent_of r)
    low_words k l = let fits = (text_is_whole p).words_within (number_in r) k l in omega (arith, fits, count_same)

    -- a word of a run begins in it
    pub word_within : (test : ℕ → Bool) (w : ℕ) → Some w ≡ find test (words_in (text_around r) (number_in r)) → w ≤ said_count (sent_of r)
    word_within test w e = let low = found_below test (said_count (sent_of r)) (words_in t (number_in r)) low_words w (e ∙ ap (find test) words_same) in omega (arith, low)

    pub first_within : (w : ℕ) → Some w ≡ slice_get (words_in (text_around r) (number_in r)) 0 → w ≤ said_count (sent_of r)
    first_within w e = let low = first_below (said_count (sent_of r)) (words_in t (number_in r)) low_words w (e ∙ ap (λ xs. slice_get xs 0) words_same) in omega (arith, low)

    pub last_run_past : IsPast t q (number_in r) → ids_after r ≡ [] → (count : ℕ) → count ≡ said_count (sent_of r) → (let z : Position = record { run = number_in r; index = count } in z) ≡ forward_to_word_start t q
    last_run_past past e count is =
        same_place (end_at t (number_in r)) (number_in r) count refl (is ∙ sym count_same)
        ∙ past_all t (text_is_whole p) q (number_in r) past (last_number r e ∙ length_same)

    module _ (s : Run) (after : IsAfter r s) (past : IsPast t q (number_in r)) (b : Bool) (is : b ≡ begins_paragraph (text_around s) (number_in s)) where
      more : number_in r + 1 < length t
      more = let m = more_runs r s after in omega (arith, m, length_same)

      number : number_in r + 1 ≡ number_in s
      number = sym (number_next r s after)

      begun_next : begins_paragraph t (number_in r + 1) ≡ b
      begun_next = ap (begins_paragraph t) number ∙ ap (λ n. begins_paragraph (node_text n) (number_in s)) (sym (after.root ∙ same)) ∙ sym is

      words_next : words_in (text_around s) (number_in s) ≡ words_in t (number_in r + 1)
      words_next = ap (λ n. words_in (node_text n) (number_in s)) (after.root ∙ same) ∙ ap (words_in t) (sym number)

      pub paragraph_next : b ≡ true → start_at (number_in s) ≡ forward_to_word_start t q
      paragraph_next e = ap start_at (sym number) ∙ paragraph_after t (text_is_whole p) q (number_in r) past more (begun_next ∙ e)

      pub word_next : b ≡ false → (w : ℕ) → Some w ≡ slice_get (words_in (text_around s) (number_in s)) 0 → (let z : Position = record { run = number_in s; index = w } in z) ≡ forward_to_word_start t q
      word_next e w f =
          ap (λ n. let z : Position = record { run = n; index = w } in z) (sym number)
          ∙ first_after t (text_is_whole p) q (number_in r) past more (begun_next ∙ e) w (f ∙ ap (λ xs. slice_get xs 0) words_next)

      pub none_next : b ≡ false → None ≡ slice_get (words_in (text_around s) (number_in s)) 0 → IsPast t q (number_in s)
      none_next e f = subst (IsPast t q) number (past_next t (text_is_whole p) q (number_in r) past more (begun_next ∙ e) (f ∙ ap (λ xs. slice_get xs 0) words_next))

    pub first_run_back : IsBack t q (number_in r) → ids_before r ≡ [] → start_at (number_in r) ≡ backward_to_word_start t q
    first_run_back back e = back_all t (text_is_whole p) q (number_in r) back (first_number r e)

    module _ (s : Run) (before : IsPreviousRun r s) (back : IsBack t q (number_in r)) (b : Bool) (is : b ≡ begins_paragraph (text_around r) (number_in r)) where
      begun_here : begins_paragraph t (number_in r) ≡ b
      begun_here = ap (λ n. begins_paragraph (node_text n) (number_in r)) (sym same) ∙ sym is

      pub paragraph_here : b ≡ true → start_at (number_in r) ≡ backward_to_word_start t q
      paragraph_here e = paragraph_before t (text_is_whole p) q (number_in r) back (let n = number_previous r s before in omega (arith, n)) (begun_here ∙ e)

      module _ (e : b ≡ false) (count : ℕ) (counted : count ≡ said_count (sent_of s)) where
        count_before : count ≡ count_in t (number_in s)
        count_before = counted ∙ sym (count_at_number s) ∙ ap (λ n. count_in (node_text n) (number_in s)) (before.root ∙ same)

        words_before : find (λ v. nat_lt v count) (reverse (words_in (text_around s) (number_in s))) ≡ find (λ v. nat_lt v (count_in t (number_in s))) (reverse (words_in t (number_in s)))
        words_before = ap (λ n. find (λ v. nat_lt v count) (reverse (words_in (node_text n) (number_in s)))) (before.root ∙ same) ∙ ap (λ n. find (λ v. nat_lt v n) (reverse (words_in t (number_in s)))) count_before

        pub word_previous : (w : ℕ) → Some w ≡ find (λ v. nat_lt v count) (reverse (words_in (text_around s) (number_in s))) → (let z : Position = record { run = number_in s; index = w } in z) ≡ backward_to_word_start t q
        word_previous w f = last_before t (text_is_whole p) q (number_in r) back (number_in s) (number_previous r s before) inside (begun_here ∙ e) w (f ∙ words_before)

        pub none_previous : None ≡ find (λ v. nat_lt v count) (reverse (words_in (text_around s) (number_in s))) → IsBack t q (number_in s)
        none_previous f = back_previous t (text_is_whole p) q (number_in r) back (number_in s) (number_previous r s before) inside (begun_here ∙ e) (f ∙ words_before)

-- ---- how far a search has come

-- forwards, no word begins after the position up to the end of the run
pub record IsPastRun (p : TextPosition) (r : Run) : Type 0 where
  pub same : text_root_of r ≡ root_at p
  pub past : IsPast (position_text p) (flat_position p) (number_in r)

-- backwards, none begins before the position down to after the start of the run
pub record IsBackRun (p : TextPosition) (r : Run) : Type 0 where
  pub same : text_root_of r ≡ root_at p
  pub back : IsBack (position_text p) (flat_position p) (number_in r)

module _ (p : TextPosition) (r s : Run) (b : Bool) where
  pub past_run : IsPastRun p r → IsAfter r s → b ≡ begins_paragraph (text_around s) (number_in s) → b ≡ false → None ≡ slice_get (words_in (text_around s) (number_in s)) 0 → IsPastRun p s
  past_run way after is e none = record { same = after.root ∙ way.same; past = none_next p r way.same s after way.past b is e none }

  pub back_run : IsBackRun p r → IsPreviousRun r s → b ≡ begins_paragraph (text_around r) (number_in r) → b ≡ false → (count : ℕ) → count ≡ said_count (sent_of s)
      → None ≡ find (λ v. nat_lt v count) (reverse (words_in (text_around s) (number_in s))) → IsBackRun p s
  back_run way before is e count counted none = record { same = before.root ∙ way.same; back = none_previous p r way.same s before way.back b is e count counted none }

-- a word below a count is within it
pub below_within : (count w : ℕ) (xs : List ℕ) → Some w ≡ find (λ v. nat_lt v count) xs → w ≤ count
below_within count w xs e = let l = ltb-true w count (found_passes (λ v. nat_lt v count) xs w e) in omega (arith, l)

-- ---- a bias before a move

module _ (t : FlatText) (whole : IsWhole t) (p : Position) (is : IsPosition t p) where
  start_twice : biased_to_start t (biased_to_start t p) ≡ biased_to_start t p
  start_twice =
      let side = start_bias_side t p whole is in
      sym (start_side_of_bias t (biased_to_start t p) whole (record { run = side.run; index = side.index })) ∙ start_side_is t (biased_to_start t p) side

  end_twice : biased_to_end t (biased_to_end t p) ≡ biased_to_end t p
  end_twice =
      let side = end_bias_side t p whole is in
      sym (end_side_of_bias t (biased_to_end t p) whole (record { run = side.run; index = side.index })) ∙ end_side_is t (biased_to_end t p) side

module _ (p b : TextPosition) where
  pub start_stays : IsPositionAt (root_at p) (biased_to_start (position_text p) (flat_position p)) b → biased_to_start (position_text b) (flat_position b) ≡ flat_position b
  start_stays at =
      ap (λ n. biased_to_start (node_text n) (flat_position b)) at.same ∙ ap (biased_to_start (position_text p)) at.at ∙ start_twice (position_text p) (text_is_whole p) (flat_position p) (is_position p) ∙ sym at.at

  pub end_stays : IsPositionAt (root_at p) (biased_to_end (position_text p) (flat_position p)) b → biased_to_end (position_text b) (flat_position b) ≡ flat_position b
  end_stays at =
      ap (λ n. biased_to_end (node_text n) (flat_position b)) at.same ∙ ap (biased_to_end (position_text p)) at.at ∙ end_twice (position_text p) (text_is_whole p) (flat_position p) (is_position p) ∙ sym at.at

  module _ (r : TextPosition) where
    pub word_after_start : IsPositionAt (root_at p) (biased_to_start (position_text p) (flat_position p)) b → IsPositionAt (root_at b) (forward_to_word_start (position_text b) (flat_position b)) r
        → IsPositionAt (root_at p) (forward_to_word_start (position_text p) (flat_position p)) r
    word_after_start at there =
        let led = then_at forward_to_word_start (root_at p) (biased_to_start (position_text p) (flat_position p)) b r at there in
        record { same = led.same; at = led.at ∙ ap (λ o. mark_above (position_text p) o (word_marks (position_text p))) (start_bias (position_text p) (flat_position p)) }

    pub word_before_end : IsPositionAt (root_at p) (biased_to_end (position_text p) (flat_position p)) b → IsPositionAt (root_at b) (backward_to_word_start (position_text b) (flat_position b)) r
        → IsPositionAt (root_at p) (backward_to_word_start (position_text p) (flat_position p)) r
    word_before_end at there =
        let led = then_at backward_to_word_start (root_at p) (biased_to_end (position_text p) (flat_position p)) b r at there in
        record { same = led.same; at = led.at ∙ ap (λ o. mark_below (position_text p) o (word_marks (position_text p))) (end_bias (position_text p) (flat_position p)) }

-- the run of a text is one of a text
pub text_there : (p : TextPosition) (r : Run) → text_root_of r ≡ root_at p → supports_text_ranges (run_world r) (root_id r) ≡ true
text_there p r same = ap (λ n. supports_text_ranges (world_at n) (id_at n)) same ∙ p.text
