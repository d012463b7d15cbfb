-- Numbers as they are read.
use Rattle.std.proofs.Common.{if◌then◌else◌, ◌≡◌, ◌≢◌, ℕ, ◌≤◌, ◌↔◌, inl, inr, ⊎_elim, List, [], ◌∷◌, ◌++◌, codes, drop, slice_index_or, arith, ℤ, pos, negsuc, neg_ℤ, w64, Bool, true, false, true≢false, Option, Some, None, IfSome, Result, Ok, Err, ap, subst, sym, refl, ◌∙◌}
use mir.Syntax.{w32}
use mir.Val.{to_z, of_z}
use Rattle.std.specs.Bool.{MatchBool}
use Rattle.std.specs.Char.{digit_value}
use Rattle.std.specs.Result.{OkIff, result_ok}
use Rattle.std.specs.Str.{IsCharBoundary}
use Rattle.std.specs.Str.Pattern.{FindsCharPrefix}
use Rattle.std.specs.Str.Parse.{IsNumeral, digits_value, signed_digits_value, without_leading_plus, without_leading_sign, starts_with_minus, ParsesSigned}
use Rattle.std.proofs.lemmas.Bool.{cases_Bool, cond-true, cond-false}
use Rattle.std.proofs.lemmas.Int.{to_z-of_z}
use Rattle.std.proofs.lemmas.Option.{none-some, same_Some}
use Rattle.std.proofs.lemmas.Str.Pattern.{starts_char}
use borrow.Author.Tests.{ne_eqb, eqb-true}
use Rattle.script_words.specs.Reading.{IsNumber, IsUnits}
use Rattle.script_words.specs.Says.{SaysNumber, SaysOther, SaysSigned}
use Rattle.script_words.specs.SaysParts.{SaysPair}
use Rattle.script_words.proofs.Decimals.{digits_lack}

-- a word that says a number doesn't begin with such a character
pub said_no_sign : (c : ℕ) → 10 ≤ digit_value c → (word : List ℕ) (n : ℕ) → SaysNumber word n → slice_index_or word 0 0 ≢ c
said_no_sign c high word n h e = digits_lack c high word h.0.1 0 h.0.0 e

-- no plus is left out of a word that begins with none
no_plus_left_out : (word : List ℕ) → slice_index_or word 0 0 ≢ 43 → without_leading_plus word ≡ word
no_plus_left_out word other = ap (λ b. drop (if b then 1 else 0) word) (ne_eqb (slice_index_or word 0 0) 43 other)

-- a number in fewer bits, as `try_from` has it
pub none_narrowed : {T : Type 0} (Wide Narrow Says : T → Type 0) (r : Option T) → r ≡ None → ((x : T) → Narrow x → Wide x) → ((x : T) → (None ≡ Some x) ↔ (Wide x × Says x)) → (x : T) → (r ≡ Some x) ↔ (Narrow x × Says x)
none_narrowed Wide Narrow Says r is wider all x = ((λ e. absurd (none-some x (sym is ∙ e))), (λ h. absurd (none-some x ((all x).1 (wider x h.0, h.1)))))

pub narrowed : {T E : Type 0} (Wide Narrow Says : T → Type 0) (n : T) (r : Result T E) → ((x : T) → Narrow x → Wide x) → ((x : T) → (Some n ≡ Some x) ↔ (Wide x × Says x)) → OkIff r (Narrow n) n → (x : T) → (result_ok r ≡ Some x) ↔ (Narrow x × Says x)
narrowed Wide Narrow Says n (Ok y) wider all h x = (
  (λ e. let same : n ≡ x = sym h.1 ∙ same_Some y x e in (subst Narrow same h.0, ((all x).0 (ap Some same)).1)),
  (λ k. ap Some (h.1 ∙ same_Some n x ((all x).1 (wider x k.0, k.1)))),
)
narrowed Wide Narrow Says n (Err e) wider all h x = (
  (λ e. absurd (none-some x e)),
  (λ k. absurd (h (subst Narrow (sym (same_Some n x ((all x).1 (wider x k.0, k.1)))) k.0))),
)

-- a number in the brackets of `Other()`
pub other_said : (Fits : ℕ → Type 0) (word inner : List ℕ) (r : Option ℕ) → word ≡ codes "Other(" ++ inner ++ codes ")" → ((digits : List ℕ) → word ≡ codes "Other(" ++ digits ++ codes ")" → inner ≡ digits)
    → ((n : ℕ) → (r ≡ Some n) ↔ (Fits n × SaysNumber inner n)) → (n : ℕ) → (r ≡ Some n) ↔ (Fits n × SaysOther word n)
other_said Fits word inner r is only all n = (
  (λ e. let k = (all n).0 e in (k.0, (inner, is, k.1))),
  (λ k. (all n).1 (k.0, subst (λ ds. SaysNumber ds n) (sym (only k.1.0 k.1.1)) k.1.2)),
)

-- ---- numbers with a sign

pub units_are_numbers : (z : ℤ) → IsUnits z → IsNumber z
units_are_numbers (pos n) fits = record { sfits = omega (arith, fits.sfits) }
units_are_numbers (negsuc n) fits = record { sfits = omega (arith, fits.sfits) }

-- what is left of a word without its sign, where it begins with no plus
said_sign : (word : List ℕ) → slice_index_or word 0 0 ≢ 43 → (z : ℤ) → (IsNumeral 10 (without_leading_sign word) × (signed_digits_value 10 word ≡ z)) ↔ SaysSigned word z
said_sign word other z = ⊎_elim (λ t. minus word t) (λ f. bare f) (cases_Bool (starts_with_minus word))
  where
    Says : List ℕ → Type 0
    Says w = (IsNumeral 10 (without_leading_sign w) × (signed_digits_value 10 w ≡ z)) ↔ SaysSigned w z

    minus : (w : List ℕ) → starts_with_minus w ≡ true → Says w
    minus [] t = absurd (true≢false (sym t))
    minus (c ∷ ds) t =
        let first : c ≡ 45 = eqb-true c 45 t in
        let left : without_leading_sign (c ∷ ds) ≡ ds = ap (λ b. if b then ds else without_leading_plus (c ∷ ds)) t in
        let value : signed_digits_value 10 (c ∷ ds) ≡ neg_ℤ (pos (digits_value 10 ds)) = cond-true _ _ _ t ∙ ap (λ w. neg_ℤ (pos (digits_value 10 w))) left in (
          (λ h. inr (ds, digits_value 10 ds, ap (λ d. d ∷ ds) first, (subst (IsNumeral 10) left h.0, refl), sym h.1 ∙ value)),
          (λ s. ⊎_elim (λ k. absurd (said_no_sign 45 (omega arith) (c ∷ ds) k.0 k.1 first))
              (λ k. let same : ds ≡ k.0 = ap (drop 1) k.2 in (subst (IsNumeral 10) (same_digits left same) k.3.0, value ∙ ap (λ w. neg_ℤ (pos (digits_value 10 w))) same ∙ ap (λ n. neg_ℤ (pos n)) k.3.1 ∙ sym k.4)) s),
        )
      where
        same_digits : {a b d : List ℕ} → a ≡ d → d ≡ b → b ≡ a
        same_digits p q = sym (p ∙ q)

    bare : starts_with_minus word ≡ false → Says word
    bare f =
        let left : without_leading_sign word ≡ word = cond-false _ _ _ f ∙ no_plus_left_out word other in
        let value : signed_digits_value 10 word ≡ pos (digits_value 10 word) = cond-false _ _ _ f ∙ ap (λ w. pos (digits_value 10 w)) left in (
          (λ h. inl (digits_value 10 word, (subst (IsNumeral 10) left h.0, refl), sym h.1 ∙ value)),
          (λ s. ⊎_elim (λ k. (subst (IsNumeral 10) (sym left) k.1.0, value ∙ ap pos k.1.1 ∙ sym k.2)) (λ k. absurd (no_minus k.0 k.2 f)) s),
        )
      where
        no_minus : (ds : List ℕ) → word ≡ codes "-" ++ ds → starts_with_minus word ≡ false → ⊥
        no_minus ds e f = true≢false (sym (ap starts_with_minus e) ∙ f)

-- as `starts_with` and `parse` have it
pub signed_said : {E : Type 0} (word : List ℕ) (b : Bool) (r : Result ℤ E) → MatchBool b ((k : ℕ) × FindsCharPrefix 43 word (Some k) × IsCharBoundary word k) (FindsCharPrefix 43 word None) → b ≡ false → ParsesSigned w64 10 word r
    → (z : ℤ) → (result_ok r ≡ Some z) ↔ (IsNumber z × SaysSigned word z)
signed_said word b r cases f h z =
    let other : slice_index_or word 0 0 ≢ 43 = λ e. true≢false (sym ((starts_char 43 word b cases (omega arith) (omega arith)).1 e) ∙ f) in
    by r h (said_sign word other z)
  where
    by : {E : Type 0} (r : Result ℤ E) → ParsesSigned w64 10 word r → (IsNumeral 10 (without_leading_sign word) × (signed_digits_value 10 word ≡ z)) ↔ SaysSigned word z → (result_ok r ≡ Some z) ↔ (IsNumber z × SaysSigned word z)
    by (Ok x) h s = (
      (λ e. let same : signed_digits_value 10 word ≡ z = sym h.1 ∙ same_Some x z e in (subst IsNumber same h.0.1, s.0 (h.0.0, same))),
      (λ k. let t = s.1 k.1 in ap Some (h.1 ∙ t.1)),
    )
    by (Err e) h s = ((λ e. absurd (none-some z e)), (λ k. let t = s.1 k.1 in absurd (h (t.0, subst IsNumber (sym t.1) k.0))))

-- a word that begins with a plus says none
pub plus_says_nothing : (word : List ℕ) (b : Bool) → MatchBool b ((k : ℕ) × FindsCharPrefix 43 word (Some k) × IsCharBoundary word k) (FindsCharPrefix 43 word None) → b ≡ true → (z : ℤ) → (None ≡ Some z) ↔ (IsNumber z × SaysSigned word z)
plus_says_nothing word b cases t z =
    let plus : slice_index_or word 0 0 ≡ 43 = (starts_char 43 word b cases (omega arith) (omega arith)).0 t in
    ((λ e. absurd (none-some z e)), (λ k. absurd (⊎_elim (λ s. said_no_sign 43 (omega arith) word s.0 s.1 plus) (λ s. let p : 45 ≡ 43 = sym (ap (λ w. slice_index_or w 0 0) s.2) ∙ plus in omega (arith, p)) k.1)))

-- ---- what is read

-- where it is known what each value that is read is, it is known of this one
pub said_of_read : {T : Type 0} (P : T → Type 0) (r : Option T) → ((x : T) → (r ≡ Some x) ↔ P x) → IfSome r P
said_of_read P None all = tt
said_of_read P (Some x) all = (all x).0 refl

-- a number of units, as it is kept in 32 bits
pub units_kept : (word : List ℕ) (z : ℤ) → IsUnits z × SaysSigned word z → IsUnits (to_z w32 (of_z w32 z)) × SaysSigned word (to_z w32 (of_z w32 z))
units_kept word z h = subst (λ x. IsUnits x × SaysSigned word x) (sym (to_z-of_z w32 z h.0)) h

pub pair_kept : (word : List ℕ) (x y : ℤ) → IsUnits x × IsUnits y × SaysPair word x y
    → IsUnits (to_z w32 (of_z w32 x)) × IsUnits (to_z w32 (of_z w32 y)) × SaysPair word (to_z w32 (of_z w32 x)) (to_z w32 (of_z w32 y))
pair_kept word x y h = let a = units_kept h.2.0 x (h.0, h.2.3) in let b = units_kept h.2.1 y (h.1, h.2.4) in (a.0, b.0, (h.2.0, h.2.1, h.2.2, a.1, b.1))
