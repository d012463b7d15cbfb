-- A range is cut at its next place, and what is past that goes on being cut.
use Rattle.std.proofs.Common.{◌≡◌, ℕ, zero, suc, ◌+◌, ◌-◌, ◌<◌, ◌≤◌, Bool, true, false, cond, List, [], ◌∷◌, length, map, refl, sym, ap, subst, ◌∙◌, arith}
use Rattle.std.specs.Prelude.{◌==◌, nat_lt, filter, if◌then◌else◌}
use Rattle.std.specs.List.{range_with_len}
use Rattle.std.proofs.lemmas.Bool.{eqb-true, ltb-true, ltb-false}
use Rattle.model.specs.FlatText.{FlatText, Position, offset, total, count_in, start_of, start_side, document_start, biased_to_start}
use Rattle.model.specs.Ranges.{Range}
use Rattle.model.specs.TextLaws.{IsWhole}
use Rattle.model.proofs.Text.TextFacts.{start_next, start_bias}
use Rattle.model.proofs.Text.Indexes.{eq_same, start_at_end}
use Rattle.model.proofs.Text.Sides.{IsOnStartSide, start_bias_side, start_side_is}
use Rattle.texts.specs.Cuts.{cut_at, cut_where}

-- numbers whose places fail are passed over
skipped : (f : ℕ → Position) (test : Position → Bool) (from d n : ℕ) → ((k : ℕ) → from ≤ k → k < from + d → test (f k) ≡ false) →
    filter test (map f (range_with_len from (d + n))) ≡ filter test (map f (range_with_len (from + d) n))
skipped f test from zero n fails =
    ap (λ m. filter test (map f (range_with_len from m))) (let e : 0 + n ≡ n = omega arith in e)
    ∙ ap (λ a. filter test (map f (range_with_len a n))) (let e : from ≡ from + 0 = omega arith in e)
skipped f test from (suc d) n fails =
    ap (λ m. filter test (map f (range_with_len from m))) (let e : suc d + n ≡ suc (d + n) = omega arith in e)
    ∙ ap (λ b. cond b (f from ∷ filter test (map f (range_with_len (from + 1) (d + n)))) (filter test (map f (range_with_len (from + 1) (d + n))))) (fails from (omega arith) (omega arith))
    ∙ skipped f test (from + 1) d n (λ k low high. fails k (omega (arith, low)) (omega (arith, high)))
    ∙ ap (λ a. filter test (map f (range_with_len a n))) (let e : from + 1 + d ≡ from + suc d = omega arith in e)

unequal : (a b : ℕ) → a < b → (a == b) ≡ false
unequal a b h = go (a == b) refl
  where
    go : (c : Bool) → (a == b) ≡ c → (a == b) ≡ false
    go true e = absurd (let same = eqb-true a b e in omega (arith, same, h))
    go false e = e

module _ (t : FlatText) (whole : IsWhole t) where
  -- before the end of the text, a place on its start side has a character after it in its run
  pub room : (q : Position) → IsOnStartSide t q → offset t q < total t → q.index < count_in t q.run
  room q on less = go (nat_lt (q.run + 1) (length t)) refl
    where
      go : (b : Bool) → nat_lt (q.run + 1) (length t) ≡ b → q.index < count_in t q.run
      go true e = on.within (ltb-true _ _ e)
      go false e =
          let run = on.run in
          let no = ltb-false _ _ e in
          let last : q.run + 1 ≡ length t = omega (arith, run, no) in
          let upto : start_of t (q.run + 1) ≡ total t = ap (start_of t) last ∙ start_at_end t in
          omega (arith, upto, start_next t q.run, less)

  -- a place on its start side, at each offset
  place_at : (o : ℕ) → o ≤ total t → (q : Position) × IsOnStartSide t q × (offset t q ≡ o)
  place_at zero h =
      (biased_to_start t document_start, start_bias_side t document_start whole (record { run = whole.some; index = omega arith }), start_bias t document_start)
  place_at (suc o) h =
      let before = place_at o (omega (arith, h)) in
      let q : Position = before.0 in
      let run : q.run < length t = before.1.run in
      let room : q.index < count_in t q.run = room q before.1 (let at = before.2 in omega (arith, at, h)) in
      let next : Position = record { run = q.run; index = q.index + 1 } in
      (biased_to_start t next, start_bias_side t next whole (record { run = run; index = omega (arith, room) }), (let e = start_bias t next in let at = before.2 in omega (arith, e, at)))

  pub start_side_on : (o : ℕ) → o ≤ total t → IsOnStartSide t (start_side t o) × (offset t (start_side t o) ≡ o)
  start_side_on o h =
      let q = place_at o h in
      let e : start_side t o ≡ q.0 = sym (ap (start_side t) q.2) ∙ start_side_is t q.0 q.1 in
      (subst (IsOnStartSide t) (sym e) q.1, ap (offset t) e ∙ q.2)

-- the next place past an offset at which one starts, or the end of the text
pub record IsNextCut (starts : Position → Bool) (t : FlatText) (a : ℕ) (c : Position) : Type 0 where
  pub above : a < offset t c
  pub side : IsOnStartSide t c
  pub starts_one : offset t c < total t → starts c ≡ true
  pub none : (q : Position) → IsOnStartSide t q → a < offset t q → offset t q < offset t c → starts q ≡ false

module _ (is_start : FlatText → Position → Bool) (t : FlatText) (whole : IsWhole t) (r : Range) where
  abbrev cuts : ℕ → ℕ → List Position
  cuts from n = filter (is_start t) (map (start_side t) (range_with_len from n))

  abbrev given : Bool → List Position → List Range
  given b qs = if b then [] else cut_at r.start qs r.end

  pub nothing_to_cut : offset t r.start ≡ offset t r.end → cut_where is_start t r ≡ []
  nothing_to_cut e = ap (λ b. given b (cuts (offset t r.start + 1) (offset t r.end - offset t r.start - 1))) (ap (λ k. k == offset t r.end) e ∙ eq_same (offset t r.end))

  module _ (c : Position) (next : IsNextCut (is_start t) t (offset t r.start) c) (some : offset t r.start < offset t r.end) (within : offset t r.end ≤ total t) where
    passed : (k : ℕ) → offset t r.start + 1 ≤ k → k < offset t c → k < offset t r.end → is_start t (start_side t k) ≡ false
    passed k low high short =
        let there = start_side_on t whole k (omega (arith, short, within)) in
        let at = there.1 in
        next.none (start_side t k) there.0 (omega (arith, at, low)) (omega (arith, at, high))

    opened : cut_where is_start t r ≡ cut_at r.start (cuts (offset t r.start + 1) (offset t r.end - offset t r.start - 1)) r.end
    opened = ap (λ b. given b (cuts (offset t r.start + 1) (offset t r.end - offset t r.start - 1))) (unequal (offset t r.start) (offset t r.end) some)

    -- the whole range, where no place is before its end
    pub cut_last : offset t r.end ≤ offset t c → cut_where is_start t r ≡ r ∷ []
    cut_last far =
        let d : ℕ = offset t r.end - offset t r.start - 1 in
        let none : cuts (offset t r.start + 1) d ≡ [] =
        ap (cuts (offset t r.start + 1)) (let e : d ≡ d + 0 = omega arith in e)
        ∙ skipped (start_side t) (is_start t) (offset t r.start + 1) d 0 (λ k low high. passed k low (omega (arith, far, some, high)) (omega (arith, some, high))) in
        opened ∙ ap (λ qs. cut_at r.start qs r.end) none

    -- else up to that place, and then what is past it
    pub cut_next : offset t c < offset t r.end →
        cut_where is_start t r ≡ (let q : Range = record { start = r.start; end = c } in q) ∷ cut_where is_start t (record { start = c; end = r.end })
    cut_next near =
        let a : ℕ = offset t r.start in
        let b : ℕ = offset t r.end in
        let o : ℕ = offset t c in
        let above : a < o = next.above in
        let rest : List Position = cuts (o + 1) (b - o - 1) in
        let here : start_side t o ≡ c = start_side_is t c next.side in
        let starts : is_start t (start_side t o) ≡ true = ap (is_start t) here ∙ next.starts_one (omega (arith, near, within)) in
        let found : cuts (a + 1) (b - a - 1) ≡ c ∷ rest =
        ap (cuts (a + 1)) (let e : b - a - 1 ≡ (o - a - 1) + suc (b - o - 1) = omega (arith, above, near) in e)
        ∙ skipped (start_side t) (is_start t) (a + 1) (o - a - 1) (suc (b - o - 1)) (λ k low high. passed k low (omega (arith, above, high)) (omega (arith, above, near, high)))
        ∙ ap (λ from. cuts from (suc (b - o - 1))) (let e : a + 1 + (o - a - 1) ≡ o = omega (arith, above) in e)
        ∙ ap (λ x. cond x (start_side t o ∷ rest) rest) starts
        ∙ ap (λ q. q ∷ rest) here in
        opened ∙ ap (λ qs. cut_at r.start qs r.end) found
        ∙ ap (λ (rs : List Range). (let q : Range = record { start = r.start; end = c } in q) ∷ rs) (sym (ap (λ x. if x then [] else cut_at c rest r.end) (unequal o b near)))
