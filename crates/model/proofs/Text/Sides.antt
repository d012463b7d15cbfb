-- The sides of an offset, and the indexes of positions.
use Rattle.std.proofs.Common.{◌≡◌, ℕ, suc, zero, ◌+◌, ◌-◌, ◌<◌, ◌≤◌, Bool, true, false, length, Some, refl, sym, ap, ◌∙◌, arith}
use Rattle.std.specs.Prelude.{◌==◌, nat_lt, nat_le, ◌&&◌, if◌then◌else◌}
use Rattle.std.specs.Option.{option_map_or}
use Rattle.std.proofs.lemmas.Bool.{ltb-true, ltb-false, leb-true, le-leb, eqb-false}
use Rattle.model.specs.FlatText.{FlatText, count_in, start_of, Position, IsPosition, offset, start_at, end_at, document_end, biased_to_start, biased_to_end, start_side, end_side, last_run, first_run}
use Rattle.model.specs.TextLaws.{IsWhole}
use Rattle.model.proofs.Text.TextFacts.{start_next, start_bias, end_bias}
use Rattle.model.proofs.Text.Searching.{first_is, last_is}

start_rises_by : (t : FlatText) (j d : ℕ) → start_of t j ≤ start_of t (j + d)
start_rises_by t j zero = let e : j + 0 ≡ j = omega arith in omega (arith, ap (start_of t) e)
start_rises_by t j (suc d) =
    let e : j + suc d ≡ j + d + 1 = omega arith in
    omega (arith, ap (start_of t) e, start_next t (j + d), start_rises_by t j d)

pub start_rises : (t : FlatText) (j k : ℕ) → j ≤ k → start_of t j ≤ start_of t k
start_rises t j k h = let e : j + (k - j) ≡ k = omega (arith, h) in omega (arith, start_rises_by t j (k - j), ap (start_of t) e)

-- a number above is refused, and one below or equal is passed
not_le : (a b : ℕ) → b < a → nat_le a b ≡ false
not_le a b h = elim (nat_le a b) as (λ x. nat_le a b ≡ x → nat_le a b ≡ false) [ true ↦ λ e. absurd (let le : a ≤ b = leb-true a b e in omega (arith, le, h)) | false ↦ λ e. e ] refl

-- a position on its start side: in its run, unless that is the last
pub record IsOnStartSide (t : FlatText) (q : Position) : Type 0 where
  pub run : q.run < length t
  pub within : q.run + 1 < length t → q.index < count_in t q.run
  pub index : q.index ≤ count_in t q.run

pub record IsOnEndSide (t : FlatText) (q : Position) : Type 0 where
  pub run : q.run < length t
  pub past : 0 < q.run → 0 < q.index
  pub index : q.index ≤ count_in t q.run

pub start_bias_side : (t : FlatText) (p : Position) → IsWhole t → IsPosition t p → IsOnStartSide t (biased_to_start t p)
start_bias_side t p whole is = go (p.index == count_in t p.run) refl (nat_lt (p.run + 1) (length t)) refl
  where
    go : (a : Bool) → (p.index == count_in t p.run) ≡ a → (b : Bool) → nat_lt (p.run + 1) (length t) ≡ b → IsOnStartSide t (if a && b then start_at (p.run + 1) else p)
    go true e true f = record { run = ltb-true _ _ f; within = λ h. whole.empty_last (p.run + 1) h; index = omega arith }
    go true e false f = record { run = is.run; within = λ h. absurd (let no = ltb-false _ _ f in omega (arith, no, h)); index = is.index }
    go false e b f = record { run = is.run; within = λ h. let no = eqb-false _ _ e in omega (arith, is.index, no); index = is.index }

pub end_bias_side : (t : FlatText) (p : Position) → IsWhole t → IsPosition t p → IsOnEndSide t (biased_to_end t p)
end_bias_side t p whole is = go (p.index == 0) refl (nat_lt 0 p.run) refl
  where
    go : (a : Bool) → (p.index == 0) ≡ a → (b : Bool) → nat_lt 0 p.run ≡ b → IsOnEndSide t (if a && b then end_at t (p.run - 1) else p)
    go true e true f =
        let some : 0 < p.run = ltb-true _ _ f in
        record { run = omega (arith, is.run, some); past = λ h. whole.empty_last (p.run - 1) (omega (arith, is.run, some)); index = omega arith }
    go true e false f = record { run = is.run; past = λ h. absurd (let no = ltb-false _ _ f in omega (arith, no, h)); index = is.index }
    go false e b f = record { run = is.run; past = λ h. let no = eqb-false _ _ e in omega (arith, no); index = is.index }

position_is : (q : Position) (r i : ℕ) → r ≡ q.run → i ≡ q.index → (let p : Position = record { run = r; index = i } in p) ≡ q
position_is q r i a b = λ k. record { run = a k; index = b k }

-- the position on the start side at its offset
pub start_side_is : (t : FlatText) (q : Position) → IsOnStartSide t q → start_side t (offset t q) ≡ q
start_side_is t q on =
    let o = offset t q in
    let found : last_run t (length t) (λ r. nat_le (start_of t r) o) ≡ Some q.run =
    last_is (length t) (length t) q.run (λ r. nat_le (start_of t r) o) on.run (omega arith) (le-leb (start_of t q.run) o (omega arith))
    (λ k a b. not_le (start_of t k) o (let up = start_rises t (q.run + 1) k (omega (arith, a)) in let in_run = on.within (omega (arith, a, b)) in omega (arith, up, in_run, start_next t q.run))) in
    ap (λ f. option_map_or (λ r. let p : Position = record { run = r; index = o - start_of t r } in p) f (document_end t)) found ∙ position_is q q.run (o - start_of t q.run) refl (omega arith)

pub end_side_is : (t : FlatText) (q : Position) → IsOnEndSide t q → end_side t (offset t q) ≡ q
end_side_is t q on =
    let o = offset t q in
    let found : first_run t 0 (λ r. nat_le o (start_of t r + count_in t r)) ≡ Some q.run =
    first_is (length t) 0 q.run (λ r. nat_le o (start_of t r + count_in t r)) (omega arith) on.run (le-leb o (start_of t q.run + count_in t q.run) (let i = on.index in omega (arith, i)))
    (λ k a b. not_le o (start_of t k + count_in t k) (let up = start_rises t (k + 1) q.run (omega (arith, b)) in let some = on.past (omega (arith, b)) in omega (arith, up, some, start_next t k))) in
    ap (λ f. option_map_or (λ r. let p : Position = record { run = r; index = o - start_of t r } in p) f (document_end t)) found ∙ position_is q q.run (o - start_of t q.run) refl (omega arith)

pub start_side_of_bias : (t : FlatText) (p : Position) → IsWhole t → IsPosition t p → start_side t (offset t p) ≡ biased_to_start t p
start_side_of_bias t p whole is = ap (start_side t) (sym (start_bias t p)) ∙ start_side_is t (biased_to_start t p) (start_bias_side t p whole is)

pub end_side_of_bias : (t : FlatText) (p : Position) → IsWhole t → IsPosition t p → end_side t (offset t p) ≡ biased_to_end t p
end_side_of_bias t p whole is = ap (end_side t) (sym (end_bias t p)) ∙ end_side_is t (biased_to_end t p) (end_bias_side t p whole is)
