-- The bits of a number that is put together from two words, a above b, where b is below 2 ^ w.
use Rattle.std.proofs.Common.{◌≡◌, ◌≢◌, ℕ, ◌+◌, ◌-◌, ◌*◌, ◌^◌, ◌<◌, ◌≤◌, max, sym, ap, ◌∙◌, arith, inl, inr}
use Rattle.std.specs.Int.{bit_at}
use Rattle.std.specs.Int.RustNames.{bit_or}
use Rattle.std.proofs.Math.Nat.{max-zero}
use Rattle.std.proofs.Math.Pow.{pow-lt}
use Rattle.std.proofs.lemmas.Nat.{or_lt}
use Rattle.std.proofs.lemmas.Bool.{cases_lt, cases_eq}
use Rattle.std.proofs.lemmas.Nat.Bits.{bit_at_or, bit_at_cat_low, bit_at_cat_high, bit_at-pow_same, bit_at-pow_other, same_from_bits}

-- a bit of the lower word
pub or_low : (w a b k : ℕ) → k < w → b < 2 ^ w → a * 2 ^ w + bit_or b (2 ^ k) ≡ bit_or (a * 2 ^ w + b) (2 ^ k)
or_low w a b k inside fits = same_from_bits _ _ (λ i. elim (cases_lt i w) [
  | inl low ↦ bit_at_cat_low a w (bit_or b (2 ^ k)) i low ∙ bit_at_or b (2 ^ k) i
      ∙ sym (bit_at_or (a * 2 ^ w + b) (2 ^ k) i ∙ ap (λ x. max x (bit_at (2 ^ k) i)) (bit_at_cat_low a w b i low))
  | inr high ↦ let other : i ≢ k = omega arith in
      bit_at_cat_high a w (bit_or b (2 ^ k)) i (or_lt w b (2 ^ k) fits (pow-lt inside)) high
      ∙ sym (bit_at_or (a * 2 ^ w + b) (2 ^ k) i ∙ ap (λ x. max (bit_at (a * 2 ^ w + b) i) x) (bit_at-pow_other k i other)
      ∙ max-zero _ ∙ bit_at_cat_high a w b i fits high)
])

-- a bit of the number, seen from the upper word
shifted_bit : (w j i : ℕ) → w ≤ i → bit_at (2 ^ j) (i - w) ≡ bit_at (2 ^ (w + j)) i
shifted_bit w j i high = elim (cases_eq i (w + j)) [
  | inl same ↦ let at : i ≡ w + j = same in let there : i - w ≡ j = omega arith in
      ap (λ n. bit_at (2 ^ j) n) there ∙ bit_at-pow_same j ∙ sym (ap (λ n. bit_at (2 ^ (w + j)) n) at ∙ bit_at-pow_same (w + j))
  | inr differ ↦ let other : i ≢ w + j = differ in let inner : i - w ≢ j = omega arith in
      bit_at-pow_other j (i - w) inner ∙ sym (bit_at-pow_other (w + j) i other)
]

-- a bit of the upper word
pub or_high : (w a b j : ℕ) → b < 2 ^ w → bit_or a (2 ^ j) * 2 ^ w + b ≡ bit_or (a * 2 ^ w + b) (2 ^ (w + j))
or_high w a b j fits = same_from_bits _ _ (λ i. elim (cases_lt i w) [
  | inl low ↦ let other : i ≢ w + j = omega arith in
      bit_at_cat_low (bit_or a (2 ^ j)) w b i low
      ∙ sym (bit_at_or (a * 2 ^ w + b) (2 ^ (w + j)) i ∙ ap (λ x. max (bit_at (a * 2 ^ w + b) i) x) (bit_at-pow_other (w + j) i other)
      ∙ max-zero _ ∙ bit_at_cat_low a w b i low)
  | inr high ↦ bit_at_cat_high (bit_or a (2 ^ j)) w b i fits high ∙ bit_at_or a (2 ^ j) (i - w)
      ∙ ap (λ x. max (bit_at a (i - w)) x) (shifted_bit w j i high)
      ∙ sym (bit_at_or (a * 2 ^ w + b) (2 ^ (w + j)) i ∙ ap (λ x. max x (bit_at (2 ^ (w + j)) i)) (bit_at_cat_high a w b i fits high))
])
