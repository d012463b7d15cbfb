-- The marks of a number: which it has once a bit is set or cleared.
use Rattle.std.proofs.Common.{◌≡◌, max, min, ℕ, ◌*◌, ◌^◌, ◌%◌, ◌<◌, ◌==◌, nat_lt, Bool, true, false, cond, get_or, refl, sym, ap, ◌∙◌, arith, inl, inr, zero-add}
use Rattle.std.specs.Prelude.{if◌then◌else◌}
use Rattle.std.specs.Int.{bit_at, bit_not, w64}
use Rattle.std.specs.Int.RustNames.{bit_or, bit_and}
use Rattle.std.proofs.lemmas.Bool.{cases_lt, lt-ltb, le-ltb}
use Rattle.std.proofs.lemmas.Bool.Decides.{eqb_tells}
use Rattle.std.proofs.lemmas.Nat.Bits.{bit_at-lt, bit_at-zero, bit_at_and, bit_at_or, bit_at_set_same, bit_at_set_other, bit_at_clear_same, bit_at_clear_other, same_from_bits_below}
use Rattle.std.proofs.Math.ListN.{get_or-eq_default}
use Rattle.std.proofs.lemmas.List.FromFn.{get_or-map-range_with_len}
use Rattle.schema.specs.Marks.{MarkSet, marks_by, mark_data, in_order, mark_number, has_mark, put_mark}
use Rattle.schema.specs.declared.marks.Mark.{Mark}

-- what is told of the numbers of marks, and false above
clip : (ℕ → Bool) → ℕ → Bool
clip f i = cond (nat_lt i 51) (f i) false

-- sets of marks are equal if they have the same of them
pub alike : (f g : ℕ → Bool) → ((i : ℕ) → i < 51 → f i ≡ g i) → marks_by f ≡ marks_by g
unfolding clip
alike f g same = ap marks_by (λ t i. clipped i t)
  where
    clipped : (i : ℕ) → clip f i ≡ clip g i
    clipped i = elim (cases_lt i 51) [
      | inl low ↦ rw (lt-ltb i 51 low) (same i low)
      | inr high ↦ rw (le-ltb i 51 high) refl
    ]

-- the mark at a number
pub at_number : (f : ℕ → Bool) (i : ℕ) → i < 51 → get_or (in_order (marks_by f)) i false ≡ f i
at_number f i low = get_or-map-range_with_len f 0 51 i i false low (zero-add i)

-- a bit that is set
pub bit_set : (n k i : ℕ) → k < 51 → (bit_at (bit_or n (1 * 2 ^ k % 2 ^ 64)) i == 1) ≡ (if i == k then true else (bit_at n i == 1))
bit_set n k i small =
    let within : k < 64 = omega (arith, small) in
    elim (eqb_tells i k) [
      | inl same ↦ rw same.0 (ap (λ j. bit_at (bit_or n (1 * 2 ^ k % 2 ^ 64)) j == 1) same.1 ∙ ap (λ b. b == 1) (bit_at_set_same w64 n k within))
      | inr other ↦ rw other.0 (ap (λ b. b == 1) (bit_at_set_other w64 n k within i other.1))
    ]

-- one that is cleared
pub bit_cleared : (n k i : ℕ) → k < 51 → i < 51 → (bit_at (bit_and n (bit_not w64 (1 * 2 ^ k % 2 ^ 64))) i == 1) ≡ (if i == k then false else (bit_at n i == 1))
bit_cleared n k i small low =
    let within : k < 64 = omega (arith, small) in
    let inside : i < 64 = omega (arith, low) in
    elim (eqb_tells i k) [
      | inl same ↦ rw same.0 (ap (λ j. bit_at (bit_and n (bit_not w64 (1 * 2 ^ k % 2 ^ 64))) j == 1) same.1 ∙ ap (λ b. b == 1) (bit_at_clear_same w64 n k within))
      | inr other ↦ rw other.0 (ap (λ b. b == 1) (bit_at_clear_other w64 n k within i inside other.1))
    ]

-- the marks of a number with one more bit, or one less
pub added : (n : ℕ) (mark : Mark) → mark_number mark < 51 → mark_data (bit_or n (1 * 2 ^ mark_number mark % 2 ^ 64)) ≡ put_mark mark true (mark_data n)
added n mark small = alike _ _ (λ i low. bit_set n (mark_number mark) i small ∙ ap (λ b. if i == mark_number mark then true else b) (sym (at_number (λ j. bit_at n j == 1) i low)))

pub removed : (n : ℕ) (mark : Mark) → mark_number mark < 51 → mark_data (bit_and n (bit_not w64 (1 * 2 ^ mark_number mark % 2 ^ 64))) ≡ put_mark mark false (mark_data n)
removed n mark small = alike _ _ (λ i low. bit_cleared n (mark_number mark) i small low ∙ ap (λ b. if i == mark_number mark then false else b) (sym (at_number (λ j. bit_at n j == 1) i low)))

-- a bit is 0 or 1
same_bit : (a b : ℕ) → a < 2 → b < 2 → (a == 1) ≡ (b == 1) → a ≡ b
same_bit a b low_a low_b same = elim (eqb_tells a 1) [
  | inl one ↦ elim (eqb_tells b 1) [
    | inl too ↦ one.1 ∙ sym too.1
    | inr other ↦ absurd (let e : true ≡ false = sym one.0 ∙ same ∙ other.0 in cc)
  ]
  | inr other ↦ elim (eqb_tells b 1) [
    | inl one ↦ absurd (let e : true ≡ false = sym one.0 ∙ sym same ∙ other.0 in cc)
    | inr too ↦ let a_zero : a ≡ 0 = omega (arith, low_a, other.1) in let b_zero : b ≡ 0 = omega (arith, low_b, too.1) in a_zero ∙ sym b_zero
  ]
]

-- numbers with the same marks are equal
pub same_marks : (a b : ℕ) → a < 2 ^ 51 → b < 2 ^ 51 → mark_data a ≡ mark_data b → a ≡ b
same_marks a b fits_a fits_b same = same_from_bits_below 51 a b fits_a fits_b (λ i low.
    same_bit (bit_at a i) (bit_at b i) (bit_at-lt a i) (bit_at-lt b i)
    (sym (at_number (λ j. bit_at a j == 1) i low) ∙ ap (λ (m : MarkSet). get_or (in_order m) i false) same ∙ at_number (λ j. bit_at b j == 1) i low))

-- a mark whose bit isn't set is not in the set
unmarked : (n : ℕ) (mark : Mark) → bit_at n (mark_number mark) ≡ 0 → has_mark mark (mark_data n) ≡ false
unmarked n mark zero = elim (cases_lt (mark_number mark) 51) [
  | inl low ↦ at_number (λ j. bit_at n j == 1) (mark_number mark) low ∙ ap (λ b. b == 1) zero
  | inr high ↦ get_or-eq_default (in_order (mark_data n)) false high
]

-- numbers of which neither has a bit of a third one have none of its marks
pub none_shared : (a b group : ℕ) (mark : Mark) → bit_and (bit_or a b) group ≡ 0 → bit_at group (mark_number mark) ≡ 1 →
    (has_mark mark (mark_data a) ≡ false) × (has_mark mark (mark_data b) ≡ false)
none_shared a b group mark none there = (unmarked a mark (omega (arith, less, low_a, low_b)), unmarked b mark (omega (arith, less, low_a, low_b)))
  where
    k : ℕ
    k = mark_number mark

    low_a : bit_at a k < 2
    low_a = bit_at-lt a k

    low_b : bit_at b k < 2
    low_b = bit_at-lt b k

    less : min (max (bit_at a k) (bit_at b k)) 1 ≡ 0
    less = ap (λ x. min x 1) (sym (bit_at_or a b k)) ∙ ap (λ x. min (bit_at (bit_or a b) k) x) (sym there) ∙ sym (bit_at_and (bit_or a b) group k) ∙ ap (λ n. bit_at n k) none ∙ bit_at-zero k
