-- The next place past a position at which a character, a word or a line starts.
use Rattle.std.proofs.Common.{◌≡◌, ℕ, zero, suc, ◌+◌, ◌-◌, ◌<◌, ◌≤◌, Bool, true, false, List, [], ◌∷◌, length, Some, inl, inr, refl, sym, ap, subst, ◌∙◌, arith}
use Rattle.std.specs.Prelude.{◌==◌, ◌&&◌, ◌||◌, nat_lt, IsTrue, slice_index}
use Rattle.std.specs.Option.{option_map_or}
use Rattle.std.specs.List.{list_any}
use Rattle.std.proofs.lemmas.Bool.{and_parts, eqb-true, eqb-false, ltb-true, ltb-false}
use Rattle.model.specs.FlatText.{FlatText, Position, IsPosition, offset, total, count_in, start_of, end_at, document_end, biased_to_start, begins_line, ends_line, begins_paragraph, words_in, first_run, is_line_start, is_word_start}
use Rattle.model.specs.Moves.{forward_to_character_start, forward_to_word_start, forward_to_line_start}
use Rattle.model.specs.TextLaws.{IsWhole}
use Rattle.model.proofs.Text.TextFacts.{start_next, start_bias}
use Rattle.model.proofs.Text.Indexes.{start_at_end}
use Rattle.model.proofs.Text.Searching.{first_is}
use Rattle.model.proofs.Text.WordMarks.{word_start_is_nearest}
use Rattle.model.proofs.Text.Sides.{IsOnStartSide, start_bias_side, start_rises}
use Rattle.texts.proofs.CharacterMoves.{goes_to_next}
use Rattle.texts.proofs.CutPlaces.{IsNextCut, start_side_on}

-- what isn't so is false
pub not_so : (b : Bool) → (b ≡ true → ⊥) → b ≡ false
not_so true off = absurd (off refl)
not_so false off = refl

pub end_is_total : (t : FlatText) → IsWhole t → offset t (document_end t) ≡ total t
end_is_total t whole =
    let some = whole.some in
    let n : (length t - 1) + 1 ≡ length t = omega (arith, some) in
    sym (start_next t (length t - 1)) ∙ ap (start_of t) n ∙ start_at_end t

-- ---- characters

pub next_character : (t : FlatText) → IsWhole t → (p : Position) → offset t p < total t → IsNextCut (λ q. true) t (offset t p) (forward_to_character_start t p)
next_character t whole p less =
    let there = start_side_on t whole (offset t p + 1) (omega (arith, less)) in
    let at = there.1 in
    record { above = omega (arith, at); side = there.0; starts_one = λ _. refl; none = λ q on low high. absurd (omega (arith, at, low, high)) }

-- ---- words

-- a number among numbers that are all below another one
any_below : (ws : List ℕ) (x bound : ℕ) → ((k : ℕ) → k < length ws → slice_index ws k < bound) → list_any (λ i. i == x) ws ≡ true → x < bound
any_below [] x bound within e = cc
any_below (w ∷ ws) x bound within e = go (w == x) refl e (any_below ws x bound (λ k l. within (suc k) (omega (arith, l))))
  where
    go : (b : Bool) → (w == x) ≡ b → (b || list_any (λ i. i == x) ws) ≡ true → (list_any (λ i. i == x) ws ≡ true → x < bound) → x < bound
    go true is h later = let same = eqb-true w x is in let low : w < bound = within 0 (omega arith) in omega (arith, same, low)
    go false is h later = later h

word_side : (t : FlatText) → IsWhole t → (p : Position) → IsPosition t p → is_word_start t p ≡ true → IsOnStartSide t p
word_side t whole p is starts = record { run = is.run; within = λ more. go more (p.index == 0) refl starts; index = is.index }
  where
    go : p.run + 1 < length t → (a : Bool) → (p.index == 0) ≡ a → is_word_start t p ≡ true → p.index < count_in t p.run
    go more true e s = let none = eqb-true p.index 0 e in let full = whole.empty_last p.run more in omega (arith, none, full)
    go more false e s =
        any_below (words_in t p.run) p.index (count_in t p.run) (whole.words_within p.run)
        (sym (ap (λ a. (a && begins_paragraph t p.run) || list_any (λ i. i == p.index) (words_in t p.run)) e) ∙ s)

pub next_word : (t : FlatText) → IsWhole t → (p : Position) → IsPosition t p → offset t p < total t → IsNextCut (is_word_start t) t (offset t p) (forward_to_word_start t p)
next_word t whole p is less = elim (word_start_is_nearest t whole p is) [
  | inl near ↦ record {
    above = near.above;
    side = word_side t whole (forward_to_word_start t p) near.mark.0 near.mark.1;
    starts_one = λ _. near.mark.1;
    none = λ q on low high. not_so (is_word_start t q) (λ s. let upto = near.nearest q (record { run = on.run; index = on.index }, s) low in omega (arith, upto, high));
  }
  | inr far ↦ at_end far.0 far.1
]
  where
    at_end : forward_to_word_start t p ≡ document_end t → ((m : Position) → IsPosition t m → IsTrue (is_word_start t m) → offset t m ≤ offset t p) → IsNextCut (is_word_start t) t (offset t p) (forward_to_word_start t p)
    at_end e none =
        let last : offset t (forward_to_word_start t p) ≡ total t = ap (offset t) e ∙ end_is_total t whole in
        record {
          above = omega (arith, last, less);
          side = subst (IsOnStartSide t) (sym e) (record { run = (let some = whole.some in omega (arith, some)); within = λ more. absurd (let some = whole.some in omega (arith, some, more)); index = omega arith });
          starts_one = λ short. absurd (omega (arith, last, short));
          none = λ q on low high. not_so (is_word_start t q) (λ s. let upto = none q (record { run = on.run; index = on.index }) s in omega (arith, upto, low));
        }

-- ---- lines

module _ (t : FlatText) (whole : IsWhole t) where
  -- a line ends with some run from each one on
  line_ends : (d r : ℕ) → r + d + 1 ≡ length t → (k : ℕ) × (r ≤ k) × (k < length t) × (ends_line t k ≡ true) × ((j : ℕ) → r ≤ j → j < k → ends_line t j ≡ false)
  line_ends zero r e = (r, omega arith, omega (arith, e), whole.last_ends r (omega (arith, e)), λ j low high. absurd (omega (arith, low, high)))
  line_ends (suc d) r e = go (ends_line t r) refl (line_ends d (r + 1) (omega (arith, e)))
    where
      go : (b : Bool) → ends_line t r ≡ b → (k : ℕ) × (r + 1 ≤ k) × (k < length t) × (ends_line t k ≡ true) × ((j : ℕ) → r + 1 ≤ j → j < k → ends_line t j ≡ false) →
          (k : ℕ) × (r ≤ k) × (k < length t) × (ends_line t k ≡ true) × ((j : ℕ) → r ≤ j → j < k → ends_line t j ≡ false)
      go true is rest = (r, omega arith, omega (arith, e), is, λ j low high. absurd (omega (arith, low, high)))
      go false is rest = (rest.0, omega (arith, rest.1), rest.2, rest.3, λ j low high. earlier j low high (j == r) refl)
        where
          earlier : (j : ℕ) → r ≤ j → j < rest.0 → (b : Bool) → (j == r) ≡ b → ends_line t j ≡ false
          earlier j low high true same = ap (ends_line t) (eqb-true j r same) ∙ is
          earlier j low high false other = rest.4 j (let apart = eqb-false j r other in omega (arith, low, apart)) high

  module _ (q : Position) (on : IsOnStartSide t q) (less : offset t q < total t) where
    after_line : (k : ℕ) → q.run ≤ k → k < length t → ends_line t k ≡ true → ((j : ℕ) → q.run ≤ j → j < k → ends_line t j ≡ false) →
        forward_to_line_start t q ≡ biased_to_start t (end_at t k) → IsNextCut (is_line_start t) t (offset t q) (forward_to_line_start t q)
    after_line k low high ends none is = record {
      above = omega (arith, at, past);
      side = subst (IsOnStartSide t) (sym is) (start_bias_side t (end_at t k) whole (record { run = high; index = omega arith }));
      starts_one = λ short. starts (omega (arith, at, short));
      none = λ p there after before. not_so (is_line_start t p) (λ s. no_line p after (omega (arith, at, before)) (and_parts (p.index == 0) (begins_line t p.run) s));
    }
      where
        at : offset t (forward_to_line_start t q) ≡ start_of t (k + 1)
        at = ap (offset t) is ∙ start_bias t (end_at t k) ∙ sym (start_next t k)

        past : offset t q < start_of t (k + 1)
        past = go (nat_lt (k + 1) (length t)) refl
          where
            go : (b : Bool) → nat_lt (k + 1) (length t) ≡ b → offset t q < start_of t (k + 1)
            go true e =
                let more = ltb-true (k + 1) (length t) e in
                let within = on.within (omega (arith, more, low)) in
                let rise = start_rises t (q.run + 1) (k + 1) (omega (arith, low)) in
                omega (arith, within, rise, start_next t q.run)
            go false e =
                let no = ltb-false (k + 1) (length t) e in
                let last : k + 1 ≡ length t = omega (arith, no, high) in
                let upto : start_of t (k + 1) ≡ total t = ap (start_of t) last ∙ start_at_end t in
                omega (arith, upto, less)

        starts : start_of t (k + 1) < total t → is_line_start t (forward_to_line_start t q) ≡ true
        starts short =
            let more : k + 1 < length t = go (nat_lt (k + 1) (length t)) refl in
            ap (is_line_start t) (is ∙ goes_to_next t (end_at t k) refl more) ∙ whole.links k more ∙ ends
          where
            go : (b : Bool) → nat_lt (k + 1) (length t) ≡ b → k + 1 < length t
            go true e = ltb-true (k + 1) (length t) e
            go false e =
                let no = ltb-false (k + 1) (length t) e in
                let last : k + 1 ≡ length t = omega (arith, no, high) in
                let upto : start_of t (k + 1) ≡ total t = ap (start_of t) last ∙ start_at_end t in
                absurd (omega (arith, upto, short))

        no_line : (p : Position) → offset t q < offset t p → offset t p < start_of t (k + 1) → (p.index == 0) ≡ true × (begins_line t p.run ≡ true) → ⊥
        no_line p after before start =
            let none_in : p.index ≡ 0 = eqb-true p.index 0 start.0 in
            let above : q.run < p.run = later p none_in after (nat_lt q.run p.run) refl in
            let below : p.run < k + 1 = earlier p before (nat_lt p.run (k + 1)) refl in
            let j : ℕ = p.run - 1 in
            let next : j + 1 ≡ p.run = omega (arith, above) in
            let off : ends_line t j ≡ false = none j (omega (arith, above)) (omega (arith, above, below)) in
            let link : begins_line t (j + 1) ≡ ends_line t j = whole.links j (omega (arith, above, below, high)) in
            let on : begins_line t (j + 1) ≡ true = ap (begins_line t) next ∙ start.1 in
            (let e : true ≡ false = sym on ∙ link ∙ off in cc)
          where
            later : (p : Position) → p.index ≡ 0 → offset t q < offset t p → (b : Bool) → nat_lt q.run p.run ≡ b → q.run < p.run
            later p none_in after true e = ltb-true q.run p.run e
            later p none_in after false e = absurd (let no = ltb-false q.run p.run e in let rise = start_rises t p.run q.run no in omega (arith, rise, none_in, after))

            earlier : (p : Position) → offset t p < start_of t (k + 1) → (b : Bool) → nat_lt p.run (k + 1) ≡ b → p.run < k + 1
            earlier p before true e = ltb-true p.run (k + 1) e
            earlier p before false e = absurd (let no = ltb-false p.run (k + 1) e in let rise = start_rises t (k + 1) p.run no in omega (arith, rise, before))

    pub next_line : IsNextCut (is_line_start t) t (offset t q) (forward_to_line_start t q)
    next_line =
        let line = line_ends (length t - q.run - 1) q.run (let run = on.run in omega (arith, run)) in
        let found : first_run t q.run (ends_line t) ≡ Some line.0 = first_is (length t) q.run line.0 (ends_line t) line.1 line.2 line.3 line.4 in
        after_line line.0 line.1 line.2 line.3 line.4 (ap (λ o. biased_to_start t (option_map_or (end_at t) o (document_end t))) found)
