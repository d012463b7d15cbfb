-- Biases and moves by character in a flat text, as steps within a run and over its ends.
use Rattle.std.proofs.Common.{◌≡◌, ℕ, ◌+◌, ◌-◌, ◌<◌, ◌≤◌, Bool, true, false, [], ◌∷◌, length, take, refl, sym, ap, ◌∙◌, arith, eq-eqb}
use Rattle.std.specs.Prelude.{◌==◌, nat_lt, ◌&&◌, if◌then◌else◌, sum_by}
use Rattle.std.proofs.lemmas.Bool.{eqb-true, ltb-true, ltb-false, lt-ltb}
use Rattle.model.specs.FlatText.{FlatText, count, count_in, total, start_of, Position, IsPosition, offset, start_at, end_at, biased_to_start, biased_to_end, start_side, end_side}
use Rattle.model.specs.Moves.{forward_to_character_start, forward_to_character_end, backward_to_character_start}
use Rattle.model.specs.TextLaws.{IsWhole}
use Rattle.model.proofs.Text.TextFacts.{start_next, start_bias, end_bias}
use Rattle.model.proofs.Text.Sides.{start_bias_side, end_bias_side, start_side_is, end_side_is, start_side_of_bias}

pub same_place : (q : Position) (r i : ℕ) → r ≡ q.run → i ≡ q.index → (let p : Position = record { run = r; index = i } in p) ≡ q
same_place q r i a b = λ k. record { run = a k; index = b k }

-- ---- biases

pub stays_within : (t : FlatText) (p : Position) → (p.index ≡ count_in t p.run → ⊥) → biased_to_start t p ≡ p
stays_within t p off = go (p.index == count_in t p.run) refl
  where
    go : (a : Bool) → (p.index == count_in t p.run) ≡ a → (if a && nat_lt (p.run + 1) (length t) then start_at (p.run + 1) else p) ≡ p
    go true e = absurd (off (eqb-true _ _ e))
    go false e = refl

pub stays_last : (t : FlatText) (p : Position) → p.run + 1 ≡ length t → biased_to_start t p ≡ p
stays_last t p last = go (p.index == count_in t p.run) (nat_lt (p.run + 1) (length t)) refl
  where
    go : (a b : Bool) → nat_lt (p.run + 1) (length t) ≡ b → (if a && b then start_at (p.run + 1) else p) ≡ p
    go true true e = absurd (let h : p.run + 1 < length t = ltb-true _ _ e in omega (arith, h, last))
    go true false e = refl
    go false b e = refl

pub goes_to_next : (t : FlatText) (p : Position) → p.index ≡ count_in t p.run → p.run + 1 < length t → biased_to_start t p ≡ start_at (p.run + 1)
goes_to_next t p e more =
    ap (λ a. if a && nat_lt (p.run + 1) (length t) then start_at (p.run + 1) else p) (eq-eqb p.index (count_in t p.run) e)
    ∙ ap (λ b. if b then start_at (p.run + 1) else p) (lt-ltb (p.run + 1) (length t) more)

pub stays_past_start : (t : FlatText) (p : Position) → (p.index ≡ 0 → ⊥) → biased_to_end t p ≡ p
stays_past_start t p off = go (p.index == 0) refl
  where
    go : (a : Bool) → (p.index == 0) ≡ a → (if a && nat_lt 0 p.run then end_at t (p.run - 1) else p) ≡ p
    go true e = absurd (off (eqb-true _ _ e))
    go false e = refl

pub stays_first : (t : FlatText) (p : Position) → p.run ≡ 0 → biased_to_end t p ≡ p
stays_first t p first = go (p.index == 0) (nat_lt 0 p.run) refl
  where
    go : (a b : Bool) → nat_lt 0 p.run ≡ b → (if a && b then end_at t (p.run - 1) else p) ≡ p
    go true true e = absurd (let h : 0 < p.run = ltb-true _ _ e in omega (arith, h, first))
    go true false e = refl
    go false b e = refl

pub goes_to_previous : (t : FlatText) (p : Position) (k : ℕ) → p.index ≡ 0 → k + 1 ≡ p.run → biased_to_end t p ≡ end_at t k
goes_to_previous t p k e is =
    ap (λ a. if a && nat_lt 0 p.run then end_at t (p.run - 1) else p) (eq-eqb p.index 0 e)
    ∙ ap (λ b. if b then end_at t (p.run - 1) else p) (lt-ltb 0 p.run (omega (arith, is)))
    ∙ (let back : p.run - 1 ≡ k = omega (arith, is) in ap (end_at t) back)

-- ---- characters

take_all : (t : FlatText) → take (length t) t ≡ t
take_all [] = refl
take_all (r ∷ t) = ap (λ s. r ∷ s) (take_all t)

pub start_of_all : (t : FlatText) → start_of t (length t) ≡ total t
start_of_all t = ap (sum_by count) (take_all t)

module _ (t : FlatText) (whole : IsWhole t) (p : Position) (is : IsPosition t p) where
  -- a character follows the start side, in its run
  pub character_follows : offset t p < total t → (biased_to_start t p).index < count_in t (biased_to_start t p).run
  character_follows less = go (nat_lt ((biased_to_start t p).run + 1) (length t)) refl
    where
      go : (b : Bool) → nat_lt ((biased_to_start t p).run + 1) (length t) ≡ b → (biased_to_start t p).index < count_in t (biased_to_start t p).run
      go true e = (start_bias_side t p whole is).within (ltb-true _ _ e)
      go false e =
          let q : Position = biased_to_start t p in
          let run : q.run < length t = (start_bias_side t p whole is).run in
          let no : length t ≤ q.run + 1 = ltb-false _ _ e in
          let last : q.run + 1 ≡ length t = omega (arith, run, no) in
          let upto : start_of t (q.run + 1) ≡ total t = ap (start_of t) last ∙ start_of_all t in
          omega (arith, upto, start_next t q.run, start_bias t p, less)

  abbrev past : Position
  past = record { run = (biased_to_start t p).run; index = (biased_to_start t p).index + 1 }

  past_offset : offset t past ≡ offset t p + 1
  past_offset = let e = start_bias t p in omega (arith, e)

  pub character_end : offset t p < total t → forward_to_character_end t p ≡ past
  character_end less =
      let follows = character_follows less in
      let run = (start_bias_side t p whole is).run in
      sym (ap (end_side t) past_offset) ∙ end_side_is t past (record { run = run; past = λ h. omega arith; index = omega (arith, follows) })

  pub character_start : offset t p < total t → forward_to_character_start t p ≡ biased_to_start t (forward_to_character_end t p)
  character_start less =
      let follows = character_follows less in
      let run = (start_bias_side t p whole is).run in
      sym (ap (start_side t) past_offset) ∙ start_side_of_bias t past whole (record { run = run; index = omega (arith, follows) }) ∙ sym (ap (biased_to_start t) (character_end less))

  -- a character precedes the end side, in its run
  pub character_precedes : 0 < offset t p → 0 < (biased_to_end t p).index
  character_precedes some = go (nat_lt 0 (biased_to_end t p).run) refl
    where
      go : (b : Bool) → nat_lt 0 (biased_to_end t p).run ≡ b → 0 < (biased_to_end t p).index
      go true e = (end_bias_side t p whole is).past (ltb-true _ _ e)
      go false e =
          let q : Position = biased_to_end t p in
          let no : q.run ≤ 0 = ltb-false _ _ e in
          let first : q.run ≡ 0 = omega (arith, no) in
          let none : start_of t q.run ≡ 0 = ap (start_of t) first in
          omega (arith, none, end_bias t p, some)

  pub character_before : 0 < offset t p → backward_to_character_start t p ≡ record { run = (biased_to_end t p).run; index = (biased_to_end t p).index - 1 }
  character_before some =
      let q : Position = biased_to_end t p in
      let ahead : Position = record { run = q.run; index = q.index - 1 } in
      let side = end_bias_side t p whole is in
      let precedes : 0 < q.index = character_precedes some in
      let at : offset t p - 1 ≡ offset t ahead = omega (arith, end_bias t p, precedes) in
      let run : q.run < length t = side.run in
      let index : q.index ≤ count_in t q.run = side.index in
      ap (start_side t) at ∙ start_side_is t ahead (record { run = run; within = λ h. omega (arith, index, precedes); index = omega (arith, index) })
