-- Digits of numbers, four bits each.
use Rattle.std.proofs.Common.{◌≡◌, ◌≢◌, ℕ, ◌+◌, ◌*◌, ◌/◌, ◌%◌, ◌^◌, ◌<◌, sym, ap, ◌∙◌, lit<}
use Rattle.std.proofs.Math.Nat.{div-add-mod, div-div-eq-div-mul, mod-eq_of_lt, div-lt_iff_lt-mul}
use Rattle.std.proofs.lemmas.Nat.{pow-add}

shifted : (a s : ℕ) → a / 2 ^ (s + 4) ≡ a / 2 ^ s / 16
shifted a s = ap (λ m. a / m) (pow-add 2 s 4) ∙ sym (div-div-eq-div-mul a (2 ^ s) 16)

-- numbers that differ from a digit on, but not in it, differ from the next one on
pub differ_above : (a b s : ℕ) → a / 2 ^ s ≢ b / 2 ^ s → a / 2 ^ s % 16 ≡ b / 2 ^ s % 16 → a / 2 ^ (s + 4) ≢ b / 2 ^ (s + 4)
differ_above a b s apart digit rest =
    apart
    (sym (div-add-mod (a / 2 ^ s) 16)
    ∙ ap (λ q. 16 * q + a / 2 ^ s % 16) (sym (shifted a s) ∙ rest ∙ shifted b s)
    ∙ ap (λ r. 16 * (b / 2 ^ s / 16) + r) digit
    ∙ div-add-mod (b / 2 ^ s) 16)

top : (a : ℕ) → a < 2 ^ 64 → a / 2 ^ 60 % 16 ≡ a / 2 ^ 60
top a less = mod-eq_of_lt ((div-lt_iff_lt-mul (lit< tt)).1 less)

-- numbers of 64 bits that differ from the last digit on differ in it
pub differ_at_top : (a b : ℕ) → a < 2 ^ 64 → b < 2 ^ 64 → a / 2 ^ 60 ≢ b / 2 ^ 60 → a / 2 ^ 60 % 16 ≢ b / 2 ^ 60 % 16
differ_at_top a b a_fits b_fits apart same = apart (sym (top a a_fits) ∙ same ∙ top b b_fits)
