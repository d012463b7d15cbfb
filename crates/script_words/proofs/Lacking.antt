-- Texts that lack a character.
use Rattle.std.proofs.Common.{◌≡◌, ◌≢◌, ℕ, zero, suc, List, [], ◌∷◌, ◌++◌, arith, Bool, true, false, nat_eq, ◌||◌, true≢false}
use Rattle.std.proofs.lemmas.Bool.Decides.{nat_tests}
use Rattle.script_words.specs.Reading.{Lacks}

pub lacks_nothing : (c : ℕ) → Lacks c []
lacks_nothing c i l e = omega (arith, l)

pub lacks_cons : (c x : ℕ) (xs : List ℕ) → x ≢ c → Lacks c xs → Lacks c (x ∷ xs)
lacks_cons c x xs other a zero l e = other e
lacks_cons c x xs other a (suc i) l e = a i (omega (arith, l)) e

pub lacks_append : (c : ℕ) (xs ys : List ℕ) → Lacks c xs → Lacks c ys → Lacks c (xs ++ ys)
lacks_append c [] ys a b = b
lacks_append c (x ∷ xs) ys a b = lacks_cons c x (xs ++ ys) (a zero (omega arith)) (lacks_append c xs ys (λ i l. a (suc i) (omega (arith, l))) b)

-- whether a text lacks a character, as a test
abbrev pub has : ℕ → List ℕ → Bool
has c [] = false
has c (x ∷ xs) = nat_eq x c || has c xs

or_false_right : (a b : Bool) → (a || b) ≡ false → b ≡ false
or_false_right false b e = e
or_false_right true b e = absurd (true≢false e)

pub lacks_by : (c : ℕ) (xs : List ℕ) → has c xs ≡ false → Lacks c xs
lacks_by c [] e = lacks_nothing c
lacks_by c (x ∷ xs) e = lacks_cons c x xs (λ s. grind (arith, nat_tests, s, e)) (lacks_by c xs (or_false_right (nat_eq x c) (has c xs) e))
