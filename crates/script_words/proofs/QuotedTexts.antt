-- A text in quotes, byte after byte.
use Rattle.std.proofs.Common.{◌≡◌, ℕ, ◌+◌, arith, length, slice_index_or, drop, subst, length-append, List, [], ◌∷◌, ◌++◌, flat_map, codes, Option, Some, None, MatchOption, Result, Ok, Err, IsOkAnd, Bor, ap, sym, ◌∙◌, append-nil, append_assoc}
use Rattle.script_words.specs.declared.stops.Stop.{Stop}
use Rattle.script_words.specs.Quoted.{quoted, quoted_byte}
use Rattle.script_words.specs.Reading.{after}
use Rattle.std.specs.Str.{IsUtf8, IsCharBoundary}
use Rattle.std.specs.Str.Pattern.{FindsCharPrefix}
use Rattle.std.proofs.Math.Seq.{get_or-append_seam, drop_at}
use Rattle.std.proofs.lemmas.Str.{IsCharBoundary-after_ascii}
use Rattle.std.proofs.lemmas.Str.Pattern.{strip_prefix_char}

-- what is left to read, of a text that stands there, once these items are read
abbrev pub IsReadSoFar : List ℕ → List ℕ → List ℕ → Type 0
IsReadSoFar bytes items left =
    (text more : List ℕ) → bytes ≡ flat_map quoted_byte text ++ codes "\"" ++ more → (ahead : List ℕ) × (text ≡ items ++ ahead) × (left ≡ flat_map quoted_byte ahead ++ codes "\"" ++ more)

-- the next byte of a text is read, and the closing quote
abbrev pub ReadsByte : List ℕ → Result (Option ℕ × Bor (List ℕ)) Stop → Type 0
ReadsByte left r = (byte : ℕ) (more : List ℕ) → left ≡ quoted_byte byte ++ more → IsOkAnd r (λ read. (read.0 ≡ Some byte) × (read.1.now ≡ more))

abbrev pub ReadsClose : List ℕ → Result (Option ℕ × Bor (List ℕ)) Stop → Type 0
ReadsClose left r = (more : List ℕ) → left ≡ codes "\"" ++ more → IsOkAnd r (λ read. (read.0 ≡ None) × (read.1.now ≡ more))

-- the text ends with what is read, or goes on
abbrev pub EndsOrGoesOn : List ℕ → List ℕ → List ℕ → Option ℕ × Bor (List ℕ) → Type 0
EndsOrGoesOn items text more read =
    (read.0 ≡ None → (items ≡ text) × (read.1.now ≡ more)) × ((byte : ℕ) → read.0 ≡ Some byte → (ahead : List ℕ) × (text ≡ (items ++ byte ∷ []) ++ ahead) × (read.1.now ≡ flat_map quoted_byte ahead ++ codes "\"" ++ more))

next_of : (items left text more ahead : List ℕ) (r : Result (Option ℕ × Bor (List ℕ)) Stop) → ReadsByte left r → ReadsClose left r
    → text ≡ items ++ ahead → left ≡ flat_map quoted_byte ahead ++ codes "\"" ++ more → IsOkAnd r (EndsOrGoesOn items text more)
next_of items left text more [] (Err stop) reads closes t l = closes more l
next_of items left text more [] (Ok read) reads closes t l = let k = closes more l in ((λ _. (sym (t ∙ append-nil items), k.1)), λ byte s. cc)
next_of items left text more (b ∷ ahead) r reads closes t l = goes_on r (reads b (flat_map quoted_byte ahead ++ codes "\"" ++ more) (l ∙ ap (λ x. x ++ more) (append_assoc (quoted_byte b) (flat_map quoted_byte ahead) (codes "\"")) ∙ append_assoc (quoted_byte b) (flat_map quoted_byte ahead ++ codes "\"") more))
  where
    goes_on : (r : Result (Option ℕ × Bor (List ℕ)) Stop) → IsOkAnd r (λ read. (read.0 ≡ Some b) × (read.1.now ≡ flat_map quoted_byte ahead ++ codes "\"" ++ more)) → IsOkAnd r (EndsOrGoesOn items text more)
    goes_on (Err stop) k = k
    goes_on (Ok read) k = ((λ n. cc), λ byte s. let same : b ≡ byte = cc in (ahead, t ∙ sym (append_assoc items (b ∷ []) ahead) ∙ ap (λ x. (items ++ x ∷ []) ++ ahead) same, k.1))

pub one_byte_more : (bytes items left : List ℕ) (r : Result (Option ℕ × Bor (List ℕ)) Stop) → IsReadSoFar bytes items left → ReadsByte left r → ReadsClose left r
    → (text more : List ℕ) → bytes ≡ flat_map quoted_byte text ++ codes "\"" ++ more → IsOkAnd r (EndsOrGoesOn items text more)
one_byte_more bytes items left r so_far reads closes text more e = let k = so_far text more e in next_of items left text more k.0 r reads closes k.1 k.2

-- what comes after the opening quote
pub after_opening : (line text more : List ℕ) (inner : Bor (List ℕ)) → line ≡ quoted text ++ more → MatchOption (Some inner) (FindsCharPrefix 34 line None) (λ x. (n : ℕ) × FindsCharPrefix 34 line (Some n) × (x.now ≡ drop n line) × (length x.now + n ≡ length line))
    → inner.now ≡ flat_map quoted_byte text ++ codes "\"" ++ more
after_opening line text more inner e found = ap (drop 1) (sym (strip_prefix_char 34 line (Some inner) found (omega arith)) ∙ e)

-- what comes after the closing quote may be cut off there
pub closing_cut : (bytes front more : List ℕ) (mid : ℕ) → IsUtf8 bytes → bytes ≡ front ++ codes "\"" ++ more → mid + length more ≡ length bytes → IsCharBoundary bytes mid × (drop mid bytes ≡ more)
closing_cut bytes front more mid utf8 e l =
    let seam : bytes ≡ front ++ 34 ∷ more = e ∙ append_assoc front (codes "\"") more in
    let long = length-append front (34 ∷ more) in
    let at : length front + 1 ≡ mid = omega (arith, long, ap length seam, l) in
    let quote : slice_index_or bytes (length front) 0 ≡ 34 = ap (λ x. slice_index_or x (length front) 0) seam ∙ get_or-append_seam front 34 more 0 in
    (subst (IsCharBoundary bytes) at (IsCharBoundary-after_ascii bytes (length front) utf8 (omega (arith, long, ap length seam)) (omega (arith, quote))), ap (drop mid) e ∙ drop_at (front ++ codes "\"") more mid (length-append front (codes "\"") ∙ at))

-- no space is missed before what is left
pub no_space_missed : (line : List ℕ) (more : Option (List ℕ)) → line ≡ after more → FindsCharPrefix 32 line None → line ≡ []
no_space_missed line None e none = e
no_space_missed line (Some rest) e none = absurd (strip_prefix_char 32 line None none (omega arith) rest e)
