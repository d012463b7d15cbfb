-- Numbers that rise below a count, from the first one on.
use Rattle.std.proofs.Common.{◌≡◌, ℕ, ◌+◌, ◌<◌, ◌≤◌, Bool, true, false, List, [], ◌∷◌, refl, sym, ap, ◌∙◌, arith}
use Rattle.std.specs.Prelude.{◌&&◌, nat_lt, nat_le}
use Rattle.std.specs.List.{list_all}
use Rattle.std.proofs.lemmas.Bool.{ltb-true, ltb-false, leb-true, le-leb}
use Rattle.schema.specs.RunFits.{neighbours, rise_below}

-- each is at least this, or more than the one before it, and below the count
abbrev pub rising_from : ℕ → ℕ → List ℕ → Bool
rising_from least count [] = true
rising_from least count (k ∷ ks) = nat_le least k && (nat_lt k count && rising_from (k + 1) count ks)

and_moves : (a b c d : Bool) → ((a && b) && (c && d)) ≡ (c && (a && (b && d)))
and_moves true true true d = refl
and_moves true false true d = refl
and_moves true true false d = refl
and_moves true false false d = refl
and_moves false b true d = refl
and_moves false b false d = refl

le_is_lt : (k j : ℕ) → nat_le (k + 1) j ≡ nat_lt k j
le_is_lt k j = go (nat_lt k j) refl
  where
    go : (b : Bool) → nat_lt k j ≡ b → nat_le (k + 1) j ≡ b
    go true e = le-leb (k + 1) j (let h : k < j = ltb-true k j e in omega (arith, h))
    go false e = elim (nat_le (k + 1) j) as (λ x. nat_le (k + 1) j ≡ x → nat_le (k + 1) j ≡ false) [
      | true ↦ λ t. absurd (let no = ltb-false k j e in let le : k + 1 ≤ j = leb-true (k + 1) j t in omega (arith, le, no))
      | false ↦ λ t. t
    ] refl

pub rising_is : (count : ℕ) (k : ℕ) (ks : List ℕ) → rise_below (k ∷ ks) count ≡ (nat_lt k count && rising_from (k + 1) count ks)
rising_is count k [] = refl
rising_is count k (j ∷ ks) =
    and_moves (nat_lt k j) (list_all (λ (p : ℕ × ℕ). nat_lt p.0 p.1) (neighbours (j ∷ ks))) (nat_lt k count) (list_all (λ i. nat_lt i count) (j ∷ ks))
    ∙ ap (λ b. nat_lt k count && (nat_lt k j && b)) (rising_is count j ks) ∙ ap (λ b. nat_lt k count && (b && (nat_lt j count && rising_from (j + 1) count ks))) (sym (le_is_lt k j))

pub rises_from_zero : (count : ℕ) (ks : List ℕ) → rise_below ks count ≡ rising_from 0 count ks
rises_from_zero count [] = refl
rises_from_zero count (k ∷ ks) = rising_is count k ks ∙ sym (ap (λ b. b && (nat_lt k count && rising_from (k + 1) count ks)) (le-leb 0 k (omega arith)))
