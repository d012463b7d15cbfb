-- Numbers as they are written.
use Rattle.std.proofs.Common.{◌≡◌, ◌≢◌, ℕ, ◌<◌, ◌≤◌, ◌^◌, List, [], ◌∷◌, slice_index_or, arith, ℤ, pos, negsuc, FitsSigned, w64, zero, suc, Bool, true, Some, None, ap, subst, sym, ◌∙◌}
use Rattle.std.specs.Bool.{MatchBool}
use Rattle.std.specs.Char.{digit_value}
use Rattle.std.specs.Fmt.{decimal, signed_decimal}
use Rattle.std.specs.Int.Signed.{mag}
use Rattle.std.specs.Str.{IsCharBoundary}
use Rattle.std.specs.Str.Pattern.{FindsCharPrefix}
use Rattle.std.specs.Str.Parse.{AllDigits}
use Rattle.std.proofs.lemmas.Fmt.{decimal_is_IsNumeral}
use Rattle.std.proofs.lemmas.Str.Pattern.{starts_char}
use Rattle.script_words.proofs.Lacking.{lacks_cons}
use Rattle.script_words.specs.Reading.{Lacks, IsWord}

pub digits_lack : (c : ℕ) → 10 ≤ digit_value c → (ds : List ℕ) → AllDigits 10 ds → Lacks c ds
digits_lack c high [] all i l e = absurd (omega arith)
digits_lack c high (d ∷ ds) all zero l e = absurd (omega (arith, all.0, subst (λ b. 10 ≤ digit_value b) (sym e) high))
digits_lack c high (d ∷ ds) all (suc i) l e = digits_lack c high ds all.1 i (omega arith) e

pub decimal_lacks : (c : ℕ) → 10 ≤ digit_value c → (n : ℕ) → n < 2 ^ 64 → Lacks c (decimal n)
decimal_lacks c high n low = digits_lack c high (decimal n) (decimal_is_IsNumeral n low).0.1

-- a number begins with no plus, as `starts_with` has it
pub no_plus : (n : ℕ) → n < 2 ^ 64 → (word : List ℕ) → word ≡ decimal n → (r : Bool) → MatchBool r ((k : ℕ) × FindsCharPrefix 43 word (Some k) × IsCharBoundary word k) (FindsCharPrefix 43 word None) → r ≢ true
no_plus n low word e r cases t = decimal_lacks 43 (omega arith) n low 0 (decimal_is_IsNumeral n low).0.0 (ap (λ w. slice_index_or w 0 0) (sym e) ∙ (starts_char 43 word r cases (omega arith) (omega arith)).0 t)

pub decimal_is_word : (n : ℕ) → n < 2 ^ 64 → IsWord (decimal n)
decimal_is_word n low = (decimal_lacks 32 (omega arith) n low, (decimal_is_IsNumeral n low).0.0)

-- nor does a number with a sign
pub no_plus_signed : (z : ℤ) → FitsSigned w64 z → (word : List ℕ) → word ≡ signed_decimal z → (r : Bool) → MatchBool r ((k : ℕ) × FindsCharPrefix 43 word (Some k) × IsCharBoundary word k) (FindsCharPrefix 43 word None) → r ≢ true
no_plus_signed (pos n) fits word e r cases t = no_plus n (omega (arith, fits.sfits)) word e r cases t
no_plus_signed (negsuc n) fits word e r cases t = let p : 45 ≡ 43 = ap (λ w. slice_index_or w 0 0) (sym e) ∙ (starts_char 43 word r cases (omega arith) (omega arith)).0 t in omega (arith, p)

pub small : (z : ℤ) → FitsSigned w64 z → mag z < 2 ^ 63
small (pos n) fits = omega (arith, fits.sfits)
small (negsuc n) fits = omega (arith, fits.sfits)

pub signed_is_word : (z : ℤ) → FitsSigned w64 z → IsWord (signed_decimal z)
signed_is_word (pos n) fits = decimal_is_word n (omega (arith, fits.sfits))
signed_is_word (negsuc n) fits = (lacks_cons 32 45 (decimal (suc n)) (λ e. omega (arith, e)) (decimal_lacks 32 (omega arith) (suc n) (omega (arith, fits.sfits))), omega arith)
