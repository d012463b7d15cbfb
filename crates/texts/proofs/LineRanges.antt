-- The lines of a text, one after another.
use Rattle.std.proofs.Common.{◌≡◌, ℕ, zero, suc, ◌+◌, ◌-◌, ◌<◌, ◌≤◌, Bool, true, false, cond, List, [], ◌∷◌, length, drop, get_or, Some, refl, sym, ap, subst, ◌∙◌, arith, add-one}
use Rattle.std.specs.Prelude.{None, ◌==◌, ◌&&◌, nat_lt, filter, zip, slice_get, Option, option_map, if◌then◌else◌}
use Rattle.std.specs.Option.{option_or, option_map_or}
use Rattle.std.proofs.Math.Seq.{drop-cons}
use Rattle.std.proofs.Math.ListN.{drop_of_length-le}
use Rattle.std.proofs.lemmas.Bool.{ltb-true, ltb-false, lt-ltb, le-ltb, le-leb, eq-eqb}
use Rattle.std.proofs.lemmas.Option.{same_Some, slice_get_past}
use Rattle.std.proofs.lemmas.List.FromFn.{get_or-range_with_len, length-range_with_len}
use Rattle.model.specs.FlatText.{FlatText, Position, run_numbers, count_in, total, start_of, start_at, end_at, document_end, first_run, begins_line, ends_line, lines}
use Rattle.model.specs.Moves.{has_caret_line}
use Rattle.model.specs.Ranges.{Range}
use Rattle.model.specs.TextLaws.{IsWhole}
use Rattle.model.proofs.Text.Searching.{first_next, first_end}
use Rattle.model.proofs.Text.Sides.{start_rises}
use Rattle.model.proofs.Text.TextFacts.{start_next}
use Rattle.texts.specs.Lines.{lines_from}
use Rattle.texts.specs.FoundRanges.{range_of_line}
use Rattle.texts.proofs.CharacterMoves.{start_of_all}

-- what the head of the rest of a list says
pub record IsHead {A : Type 0} (xs : List A) (k : ℕ) (y : A) (ys : List A) : Type 0 where
  pub at : slice_get xs k ≡ Some y
  pub rest : drop (suc k) xs ≡ ys
  pub size : length xs ≡ suc k + length ys

pub head_of : {A : Type 0} (xs : List A) (k : ℕ) (y : A) (ys : List A) → drop k xs ≡ y ∷ ys → IsHead xs k y ys
head_of [] zero y ys e = absurd (let no : [] ≡ y ∷ ys = e in cc)
head_of [] (suc k) y ys e = absurd (let no : [] ≡ y ∷ ys = e in cc)
head_of (x ∷ xs) zero y ys e = record { at = cc; rest = cc; size = (let l = ap length e in omega (arith, l)) }
head_of (x ∷ xs) (suc k) y ys e = let rest = head_of xs k y ys e in let s = rest.size in record { at = rest.at; rest = rest.rest; size = omega (arith, s) }

module _ (t : FlatText) where
  abbrev numbers : List ℕ
  numbers = run_numbers t

  numbers_from : (k : ℕ) → k < length t → drop k (run_numbers t) ≡ k ∷ drop (k + 1) (run_numbers t)
  numbers_from k h =
      let is : get_or (run_numbers t) k 0 ≡ k = (let e = get_or-range_with_len 0 (length t) k 0 h in omega (arith, e)) in
      let within : k < length (run_numbers t) = omega (arith, h, length-range_with_len 0 (length t)) in
      drop-cons (run_numbers t) k 0 within ∙ ap (λ x. x ∷ drop (suc k) (run_numbers t)) is ∙ ap (λ j. k ∷ drop j (run_numbers t)) (sym (add-one k))

  filtered : (test : ℕ → Bool) (k : ℕ) (b : Bool) → k < length t → test k ≡ b → filter test (drop k (run_numbers t)) ≡ cond b (k ∷ filter test (drop (k + 1) (run_numbers t))) (filter test (drop (k + 1) (run_numbers t)))
  filtered test k b h e =
      ap (filter test) (numbers_from k h) ∙ ap (λ c. cond c (k ∷ filter test (drop (k + 1) (run_numbers t))) (filter test (drop (k + 1) (run_numbers t)))) e

  -- from the first of these runs on, the second is the first that ends a line
  pub record IsOneLine (a b : ℕ) : Type 0 where
    pub ends : filter (ends_line t) (drop a (run_numbers t)) ≡ b ∷ filter (ends_line t) (drop (b + 1) (run_numbers t))
    pub begins : filter (begins_line t) (drop (a + 1) (run_numbers t)) ≡ filter (begins_line t) (drop (b + 1) (run_numbers t))
    pub order : a ≤ b
    pub within : b < length t
    pub last : ends_line t b ≡ true

  module _ (whole : IsWhole t) where
    one_line : (d a b : ℕ) → a + d ≡ length t → a < length t → first_run t a (ends_line t) ≡ Some b → IsOneLine a b
    one_line zero a b e h f = absurd (omega (arith, e, h))
    one_line (suc d) a b e h f = go (λ less found. one_line d (a + 1) b (omega (arith, e)) less found) (ends_line t a) refl
      where
        next : (c : Bool) → ends_line t a ≡ c → cond c (Some a) (first_run t (a + 1) (ends_line t)) ≡ Some b
        next c is = sym (ap (λ x. cond x (Some a) (first_run t (a + 1) (ends_line t))) is) ∙ sym (first_next (length t) a (ends_line t) h) ∙ f

        later : (a + 1 < length t → first_run t (a + 1) (ends_line t) ≡ Some b → IsOneLine (a + 1) b) → (c : Bool) → nat_lt (a + 1) (length t) ≡ c → ends_line t a ≡ false → IsOneLine a b
        later onward true more is =
            let less : a + 1 < length t = ltb-true (a + 1) (length t) more in
            let rest : IsOneLine (a + 1) b = onward less (next false is) in
            let order : a + 1 ≤ b = rest.order in
            record {
              ends = filtered (ends_line t) a false h is ∙ rest.ends;
              begins = filtered (begins_line t) (a + 1) false less (whole.links a less ∙ is) ∙ rest.begins;
              order = omega (arith, order);
              within = rest.within;
              last = rest.last;
            }
        later onward false more is = absurd (let no : None ≡ Some b = sym (first_end (length t) (a + 1) (ends_line t) (ltb-false (a + 1) (length t) more)) ∙ next false is in cc)

        go : (a + 1 < length t → first_run t (a + 1) (ends_line t) ≡ Some b → IsOneLine (a + 1) b) → (c : Bool) → ends_line t a ≡ c → IsOneLine a b
        go onward true is = subst (IsOneLine a) (same_Some a b (next true is)) (record { ends = filtered (ends_line t) a true h is; begins = refl; order = omega arith; within = h; last = is })
        go onward false is = later onward (nat_lt (a + 1) (length t)) refl is

    pub line_order : (a b : ℕ) → a < length t → first_run t a (ends_line t) ≡ Some b → a ≤ b
    line_order a b h f = (one_line (length t - a) a b (omega (arith, h)) h f).order

    pub line_ends : (a b : ℕ) → a < length t → first_run t a (ends_line t) ≡ Some b → ends_line t b ≡ true
    line_ends a b h f = (one_line (length t - a) a b (omega (arith, h)) h f).last

    pub next_line : (s b : ℕ) → s < length t → begins_line t s ≡ true → first_run t s (ends_line t) ≡ Some b → lines_from t s ≡ (s, b) ∷ lines_from t (b + 1)
    next_line s b h begins f =
        let line : IsOneLine s b = one_line (length t - s) s b (omega (arith, h)) h f in
        ap (λ xs. zip xs (filter (ends_line t) (drop s (run_numbers t)))) (filtered (begins_line t) s true h begins ∙ ap (λ xs. s ∷ xs) line.begins)
        ∙ ap (λ ys. zip (s ∷ filter (begins_line t) (drop (b + 1) (run_numbers t))) ys) line.ends

    -- a line isn't empty exactly where its first run isn't
    pub line_is_empty : (s : ℕ) → s < length t → count_in t s ≡ 0 → nat_lt (start_of t s) (total t) ≡ false
    line_is_empty s h none = go (nat_lt (s + 1) (length t)) refl
      where
        go : (c : Bool) → nat_lt (s + 1) (length t) ≡ c → nat_lt (start_of t s) (total t) ≡ false
        go true more = absurd (let some = whole.empty_last s (ltb-true (s + 1) (length t) more) in omega (arith, some, none))
        go false more =
            let past = ltb-false (s + 1) (length t) more in
            let last : s + 1 ≡ length t = omega (arith, past, h) in
            let all : start_of t (s + 1) ≡ total t = ap (start_of t) last ∙ start_of_all t in
            le-ltb (start_of t s) (total t) (omega (arith, all, start_next t s, none))

    pub line_has_some : (s : ℕ) → s < length t → 0 < count_in t s → nat_lt (start_of t s) (total t) ≡ true
    line_has_some s h some =
        let rise = start_rises t (s + 1) (length t) (omega (arith, h)) in
        lt-ltb (start_of t s) (total t) (omega (arith, rise, start_next t s, start_of_all t, some))

  pub none_from : (k : ℕ) → length t ≤ k → lines_from t k ≡ []
  none_from k past = ap (λ xs. zip (filter (begins_line t) xs) (filter (ends_line t) xs)) (drop_of_length-le (run_numbers t) (let e : length (run_numbers t) ≤ k = omega (arith, past, length-range_with_len 0 (length t)) in e))

  -- ---- the range of a line

  abbrev pub as_range : Position × Position → Range
  as_range l = record { start = l.0; end = l.1 }

  abbrev caret : Bool → Option (Position × Position)
  caret c = if c then Some (document_end t, document_end t) else None

  pub line_is_there : (k s b : ℕ) → slice_get (lines t) k ≡ Some (s, b) → Some (let r : Range = record { start = start_at s; end = end_at t b } in r) ≡ range_of_line t k
  line_is_there k s b e =
      sym (ap (λ o. option_map as_range (option_or (option_map (λ (l : ℕ × ℕ). (start_at l.0, end_at t l.1)) o) (caret (k == length (lines t) && has_caret_line t)))) e)

  abbrev last_has_some : Option (ℕ × ℕ) → Bool
  last_has_some o = option_map_or (λ (l : ℕ × ℕ). nat_lt (start_of t l.0) (total t)) o false

  -- past the last line, a caret, if there are several lines and the last one isn't empty
  pub caret_is_there : (line k s b : ℕ) → length (lines t) ≡ line + 1 → slice_get (lines t) line ≡ Some (s, b) → 1 ≤ line → line < k → k ≤ line + 1 →
      (if nat_lt (start_of t s) (total t) then Some (let r : Range = record { start = document_end t; end = document_end t } in r) else None) ≡ range_of_line t k
  caret_is_there line k s b size last several past upto =
      let here : k ≡ length (lines t) = omega (arith, size, past, upto) in
      let back : length (lines t) - 1 ≡ line = omega (arith, size) in
      mapped (nat_lt (start_of t s) (total t))
      ∙ sym (ap (λ o. option_map as_range (option_or (option_map (λ (l : ℕ × ℕ). (start_at l.0, end_at t l.1)) o) (caret (k == length (lines t) && has_caret_line t)))) (slice_get_past (lines t) k (omega (arith, here)))
      ∙ ap (λ c. option_map as_range (caret (c && has_caret_line t))) (eq-eqb k (length (lines t)) here)
      ∙ ap (λ c. option_map as_range (caret (c && last_has_some (slice_get (lines t) (length (lines t) - 1))))) (le-leb 2 (length (lines t)) (omega (arith, size, several)))
      ∙ ap (λ o. option_map as_range (caret (last_has_some o))) (ap (slice_get (lines t)) back ∙ last))
    where
      mapped : (c : Bool) → (if c then Some (as_range (document_end t, document_end t)) else None) ≡ option_map as_range (caret c)
      mapped true = refl
      mapped false = refl
