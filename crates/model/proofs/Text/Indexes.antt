-- The position of the index of a position.
use Rattle.std.proofs.Common.{◌≡◌, ℕ, suc, zero, ◌+◌, ◌-◌, ◌<◌, ◌≤◌, Bool, true, false, List, [], ◌∷◌, length, take, get_or, Some, None, refl, sym, ap, ◌∙◌, arith, add-one}
use Rattle.std.specs.Prelude.{◌==◌, nat_lt, if◌then◌else◌, sum_by, All, option_map}
use Rattle.std.specs.Option.{option_or}
use Rattle.std.proofs.Math.Seq.{take-suc}
use Rattle.std.proofs.lemmas.Bool.{ltb-true, ltb-false, lt-ltb, eqb-false}
use Rattle.std.proofs.lemmas.List.Sums.{sum_by_push}
use Rattle.std.proofs.lemmas.List.Concat.{length-flat_map}
use Rattle.model.specs.FlatText.{FlatText, characters, count, count_in, start_of, total, Position, IsPosition, offset, document_end, biased_to_start, start_side}
use Rattle.model.specs.Moves.{length_before, global_index, holder_of, position_of}
use Rattle.model.specs.TextLaws.{IsWhole}
use Rattle.model.proofs.Text.TextFacts.{start_next, start_bias}
use Rattle.model.proofs.Text.Searching.{first_is, first_is_none}
use Rattle.model.proofs.Text.Sides.{start_rises, IsOnStartSide, start_bias_side, start_side_is}

not_lt : (a b : ℕ) → b ≤ a → nat_lt a b ≡ false
not_lt a b h = elim (nat_lt a b) as (λ x. nat_lt a b ≡ x → nat_lt a b ≡ false) [ true ↦ λ e. absurd (let lt : a < b = ltb-true a b e in omega (arith, lt, h)) | false ↦ λ e. e ] refl

pub eq_same : (n : ℕ) → (n == n) ≡ true
eq_same n = elim (n == n) as (λ b. (n == n) ≡ b → (n == n) ≡ true) [ true ↦ λ e. e | false ↦ λ e. absurd (eqb-false n n e refl) ] refl

take_all : {X : Type 0} (xs : List X) → take (length xs) xs ≡ xs
take_all [] = refl
take_all (x ∷ xs) = ap (λ ys. x ∷ ys) (take_all xs)

pub start_at_end : (t : FlatText) → start_of t (length t) ≡ total t
start_at_end t = ap (sum_by count) (take_all t)

pub total_is : (t : FlatText) → length (characters t) ≡ total t
total_is t = length-flat_map (λ r. r.characters) t

pub offset_within : (t : FlatText) (p : Position) → IsPosition t p → offset t p ≤ total t
offset_within t p is =
    let up = start_rises t (p.run + 1) (length t) (let h = is.run in omega (arith, h)) in
    let i = is.index in
    omega (arith, up, i, start_next t p.run, start_at_end t)

module _ (len : List ℕ → ℕ) (t : FlatText) where
  before_next : (o : ℕ) → o < length (characters t) → length_before len t (o + 1) ≡ length_before len t o + len (get_or (characters t) o [])
  before_next o h =
      ap (λ k. sum_by len (take k (characters t))) (add-one o) ∙ ap (sum_by len) (take-suc (characters t) o [] h) ∙ sum_by_push len (take o (characters t)) (get_or (characters t) o [])

  before_rises_by : (d o : ℕ) → o + d ≤ length (characters t) → length_before len t o ≤ length_before len t (o + d)
  before_rises_by zero o h = let e : o + 0 ≡ o = omega arith in omega (arith, ap (length_before len t) e)
  before_rises_by (suc d) o h =
      let e : o + suc d ≡ o + d + 1 = omega arith in
      omega (arith, ap (length_before len t) e, before_next (o + d) (omega (arith, h)), before_rises_by d o (omega (arith, h)))

  pub before_rises : (a b : ℕ) → a ≤ b → b ≤ length (characters t) → length_before len t a ≤ length_before len t b
  before_rises a b h k = let e : a + (b - a) ≡ b = omega (arith, h) in omega (arith, before_rises_by (b - a) a (omega (arith, h, k)), ap (length_before len t) e)

  -- an offset with a character after it holds its own index
  holds : (o : ℕ) → All (λ c. 0 < len c) (characters t) → o < total t → holder_of len t (length_before len t o) ≡ Some o
  holds o some h =
      let within : o < length (characters t) = omega (arith, h, total_is t) in
      let g = length_before len t o in
      first_is (total t) 0 o (λ k. nat_lt g (length_before len t (k + 1))) (omega arith) h
      (lt-ltb g (length_before len t (o + 1)) (let more : 0 < len (get_or (characters t) o []) = some o [] within in omega (arith, before_next o within, more)))
      (λ k a b. not_lt g (length_before len t (k + 1)) (before_rises (k + 1) o (omega (arith, b)) (omega (arith, within))))

  -- no character holds the index of the end
  none_holds : holder_of len t (length_before len t (total t)) ≡ None
  none_holds =
      let g = length_before len t (total t) in
      first_is_none (total t) 0 (λ k. nat_lt g (length_before len t (k + 1))) (omega arith)
      (λ k a b. not_lt g (length_before len t (k + 1)) (before_rises (k + 1) (total t) (omega (arith, b)) (omega (arith, total_is t))))

-- the start side at the end is the end
end_is : (t : FlatText) (q : Position) → IsOnStartSide t q → offset t q ≡ total t → q ≡ document_end t
end_is t q on e =
    let last : length t ≤ q.run + 1 =
    elim (nat_lt (q.run + 1) (length t)) as (λ b. nat_lt (q.run + 1) (length t) ≡ b → length t ≤ q.run + 1) [
      | true ↦ λ f. absurd (let h = ltb-true _ _ f in let i = on.within h in let up = start_rises t (q.run + 1) (length t) (omega (arith, h)) in omega (arith, up, i, start_next t q.run, start_at_end t, e))
      | false ↦ λ f. let h = ltb-false _ _ f in omega (arith, h)
    ] refl in
    let run : q.run ≡ length t - 1 = let r = on.run in omega (arith, last, r) in
    let whole : q.run + 1 ≡ length t = let r = on.run in omega (arith, last, r) in
    let index : q.index ≡ count_in t q.run = omega (arith, start_next t q.run, ap (start_of t) whole, start_at_end t, e) in
    λ i. record { run = run i; index = (index ∙ ap (count_in t) run) i }

pub comes_back : (t : FlatText) (len : List ℕ → ℕ) → IsWhole t → All (λ c. 0 < len c) (characters t) → (p : Position) → IsPosition t p → position_of len t (global_index len t p) ≡ Some (biased_to_start t p)
comes_back t len whole some p is = go (nat_lt (offset t p) (total t)) refl
  where
    q : Position
    q = biased_to_start t p

    go : (b : Bool) → nat_lt (offset t p) (total t) ≡ b → position_of len t (global_index len t p) ≡ Some (biased_to_start t p)
    go true f =
        let h : offset t p < total t = ltb-true _ _ f in
        ap (λ o. option_or (option_map (start_side t) o) (if global_index len t p == length_before len t (total t) then Some (document_end t) else None)) (holds len t (offset t p) some h)
        ∙ ap Some (ap (start_side t) (sym (start_bias t p)) ∙ start_side_is t (biased_to_start t p) (start_bias_side t p whole is))
    go false f =
        let h = ltb-false _ _ f in
        let e : offset t p ≡ total t = omega (arith, h, offset_within t p is) in
        let g : global_index len t p ≡ length_before len t (total t) = ap (length_before len t) e in
        ap (λ k. option_or (option_map (start_side t) (holder_of len t k)) (if k == length_before len t (total t) then Some (document_end t) else None)) g
        ∙ ap (λ o. option_or (option_map (start_side t) o) (if length_before len t (total t) == length_before len t (total t) then Some (document_end t) else None)) (none_holds len t)
        ∙ ap (λ b. if b then Some (document_end t) else None) (eq_same (length_before len t (total t)))
        ∙ ap Some (sym (end_is t (biased_to_start t p) (start_bias_side t p whole is) (start_bias t p ∙ e)))
