-- Texts that stand on one line: no newline is in them, no carriage return at their end, and they are UTF-8.
use Rattle.std.proofs.Common.{◌≡◌, ◌≢◌, ℕ, ◌<◌, ◌≤◌, ◌^◌, List, [], ◌∷◌, ◌++◌, All, Bool, true, nat_lt, ◌&&◌, ◌==◌, codes, flat_map, length, get_or, IsUtf8, Option, Some, None, MatchOption, option_map, ℤ, pos, negsuc, suc, FitsSigned, w64, inl, inr, arith, refl, sym, ap, ap₂, subst, ◌∙◌, append-nil, ltb-true, ne_eqb}
use Rattle.std.specs.Bool.{⊤}
use Rattle.std.specs.Fmt.{decimal, signed_decimal}
use Rattle.std.proofs.lemmas.Bool.{and_parts, cases_lt, cond_both, cond-false}
use Rattle.std.proofs.lemmas.Bool.Decides.{nat_tests}
use Rattle.std.proofs.lemmas.Fmt.{IsAscii-decimal}
use Rattle.std.proofs.lemmas.Grind.{flat_map-append}
use Rattle.std.proofs.lemmas.List.{same_from_push}
use Rattle.std.proofs.lemmas.List.Elements.{All-head, All-tail}
use Rattle.std.proofs.lemmas.Str.{IsUtf8-append, IsUtf8-encode, IsUtf8-from_ascii, IsUtf8-nil, encode_ascii, inside_one}
use lib.Utf8.{scalar, scalars, encode, encodes, low_scalar}
use Rattle.script_words.specs.Items.{comma_then}
use Rattle.script_words.specs.Quoted.{quoted, quoted_byte}
use Rattle.script_words.specs.Reading.{IsUnits, Lacks}
use Rattle.script_words.proofs.Cuts.{lacks_no_cut}
use Rattle.script_words.proofs.Decimals.{decimal_lacks}
use Rattle.script_words.proofs.Lacking.{lacks_append, lacks_by, lacks_cons, lacks_nothing}

abbrev pub HasNoReturn : List ℕ → Type 0
HasNoReturn text = (front : List ℕ) → text ≢ front ++ 13 ∷ []

abbrev pub IsLineText : List ℕ → Type 0
IsLineText text = Lacks 10 text × HasNoReturn text × IsUtf8 text

pub line_nothing : IsLineText []
line_nothing = (lacks_nothing 10, none, IsUtf8-nil)
  where
    none : HasNoReturn []
    none [] e = cc
    none (x ∷ front) e = cc

-- ---- one text after another

no_front : (a b : List ℕ) (x : ℕ) → x ∷ (a ++ b) ≡ 13 ∷ [] → x ∷ a ≡ 13 ∷ []
no_front [] b x e = let first : x ≡ 13 = cc in ap (λ y. y ∷ []) first
no_front (y ∷ a) b x e = cc

returns_append : (a b : List ℕ) → HasNoReturn a → HasNoReturn b → HasNoReturn (a ++ b)
returns_append [] b p q front e = q front e
returns_append (x ∷ a) b p q [] e = p [] (no_front a b x e)
returns_append (x ∷ a) b p q (y ∷ front) e = let tail : a ++ b ≡ front ++ 13 ∷ [] = cc in returns_append a b (λ f h. p (x ∷ f) (ap (λ t. x ∷ t) h)) q front tail

pub line_append : (a b : List ℕ) → IsLineText a → IsLineText b → IsLineText (a ++ b)
line_append a b p q = (lacks_append 10 a b p.0 q.0, returns_append a b p.1 q.1, IsUtf8-append a b p.2 q.2)

pub line_joined : (a c b : List ℕ) → IsLineText a → IsLineText c → IsLineText b → IsLineText (a ++ c ++ b)
line_joined a c b p q r = line_append (a ++ c) b (line_append a c p q) r

pub line_all : {T : Type 0} (text : T → List ℕ) → ((x : T) → IsLineText (text x)) → (xs : List T) → IsLineText (flat_map text xs)
line_all text each [] = line_nothing
line_all text each (x ∷ xs) = line_append (text x) (flat_map text xs) (each x) (line_all text each xs)

-- ---- words

-- all bytes are visible characters or a space
abbrev pub shows : List ℕ → Bool
shows [] = true
shows (x ∷ xs) = nat_lt 31 x && nat_lt x 128 && shows xs

shown : (x : ℕ) (rest : Bool) → (nat_lt 31 x && nat_lt x 128 && rest) ≡ true → (31 < x) × (x < 128) × (rest ≡ true)
shown x rest t = let k = and_parts (nat_lt 31 x && nat_lt x 128) rest t in let l = and_parts (nat_lt 31 x) (nat_lt x 128) k.0 in (ltb-true 31 x l.0, ltb-true x 128 l.1, k.1)

shows_lacks : (c : ℕ) → c < 32 → (xs : List ℕ) → shows xs ≡ true → Lacks c xs
shows_lacks c low [] t = lacks_nothing c
shows_lacks c low (x ∷ xs) t = let k = shown x (shows xs) t in lacks_cons c x xs (λ e. omega (arith, e, k.0)) (shows_lacks c low xs k.2)

ascii_then : (x : ℕ) (xs : List ℕ) → x < 128 → IsUtf8 xs → IsUtf8 (x ∷ xs)
ascii_then x xs small u = IsUtf8-append (x ∷ []) xs (subst IsUtf8 (encode_ascii x small) (IsUtf8-encode x (low_scalar x (omega arith)))) u

shows_utf8 : (xs : List ℕ) → shows xs ≡ true → IsUtf8 xs
shows_utf8 [] t = IsUtf8-nil
shows_utf8 (x ∷ xs) t = let k = shown x (shows xs) t in ascii_then x xs k.1 (shows_utf8 xs k.2)

pub line_lacking : (text : List ℕ) → Lacks 10 text → Lacks 13 text → IsUtf8 text → IsLineText text
line_lacking text a b u = (a, λ front. lacks_no_cut 13 text front [] b, u)

-- as a test
pub line_by : (text : List ℕ) → shows text ≡ true → IsLineText text
line_by text t = line_lacking text (shows_lacks 10 (omega arith) text t) (shows_lacks 13 (omega arith) text t) (shows_utf8 text t)

pub decimal_line : (n : ℕ) → n < 2 ^ 64 → IsLineText (decimal n)
decimal_line n low = line_lacking (decimal n) (decimal_lacks 10 (omega arith) n low) (decimal_lacks 13 (omega arith) n low) (IsUtf8-from_ascii (decimal n) (IsAscii-decimal n low))

pub signed_line : (z : ℤ) → FitsSigned w64 z → IsLineText (signed_decimal z)
signed_line (pos n) fits = decimal_line n (omega (arith, fits.sfits))
signed_line (negsuc n) fits = line_append (codes "-") (decimal (suc n)) (line_by (codes "-") refl) (decimal_line (suc n) (omega (arith, fits.sfits)))

pub units_line : (z : ℤ) → IsUnits z → IsLineText (signed_decimal z)
units_line (pos n) fits = decimal_line n (omega (arith, fits.sfits))
units_line (negsuc n) fits = line_append (codes "-") (decimal (suc n)) (line_by (codes "-") refl) (decimal_line (suc n) (omega (arith, fits.sfits)))

-- ---- a text in quotes

quoted_byte_lacks : (byte : ℕ) → Lacks 10 (quoted_byte byte)
quoted_byte_lacks byte =
    cond_both (byte == 34) (codes "\\\"") _ (Lacks 10) (λ _. lacks_by 10 (codes "\\\"") refl) (λ _.
    cond_both (byte == 92) (codes "\\\\") _ (Lacks 10) (λ _. lacks_by 10 (codes "\\\\") refl) (λ _.
    cond_both (byte == 10) (codes "\\n") (byte ∷ []) (Lacks 10) (λ _. lacks_by 10 (codes "\\n") refl) (λ f. lacks_cons 10 byte [] (λ e. grind (arith, nat_tests, e, f)) (lacks_nothing 10))))

all_lack : (text : List ℕ) → Lacks 10 (flat_map quoted_byte text)
all_lack [] = lacks_nothing 10
all_lack (byte ∷ text) = lacks_append 10 (quoted_byte byte) (flat_map quoted_byte text) (quoted_byte_lacks byte) (all_lack text)

quoted_high_byte : (x : ℕ) → 128 ≤ x → quoted_byte x ≡ x ∷ []
quoted_high_byte x high = cond-false _ _ _ (ne_eqb x 34 (λ e. omega (arith, e))) ∙ cond-false _ _ _ (ne_eqb x 92 (λ e. omega (arith, e))) ∙ cond-false _ _ _ (ne_eqb x 10 (λ e. omega (arith, e)))

quoted_high : (xs : List ℕ) → ((k : ℕ) → k < length xs → 128 ≤ get_or xs k 0) → flat_map quoted_byte xs ≡ xs
quoted_high [] h = refl
quoted_high (x ∷ xs) h = ap₂ (λ (a b : List ℕ). a ++ b) (quoted_high_byte x (h 0 (omega arith))) (quoted_high xs (λ k below. h (suc k) (omega arith)))

quoted_byte_utf8 : (x : ℕ) → x < 128 → IsUtf8 (quoted_byte x)
quoted_byte_utf8 x low =
    cond_both (x == 34) (codes "\\\"") _ IsUtf8 (λ _. shows_utf8 (codes "\\\"") refl) (λ _.
    cond_both (x == 92) (codes "\\\\") _ IsUtf8 (λ _. shows_utf8 (codes "\\\\") refl) (λ _.
    cond_both (x == 10) (codes "\\n") (x ∷ []) IsUtf8 (λ _. shows_utf8 (codes "\\n") refl) (λ _. ascii_then x [] low IsUtf8-nil)))

one_char : (c : ℕ) → scalar c ≡ true → IsUtf8 (flat_map quoted_byte (encode c))
one_char c ok = elim (cases_lt c 128) [
  | inl small ↦ rw (encode_ascii c small, append-nil) (quoted_byte_utf8 c small)
  | inr big ↦
      let high : (k : ℕ) → k < length (encode c) → 128 ≤ get_or (encode c) k 0 = λ k below. elim (cases_lt (get_or (encode c) k 0) 128) [
        | inl low ↦ absurd (omega (arith, inside_one c [] (encode c) k (sym (append-nil _)) below low))
        | inr h ↦ h
      ] in
      subst IsUtf8 (sym (quoted_high (encode c) high)) (IsUtf8-encode c ok)
]

all_chars : (cs : List ℕ) → scalars cs ≡ true → IsUtf8 (flat_map quoted_byte (encodes cs))
all_chars [] e = IsUtf8-nil
all_chars (c ∷ cs) e =
    let k = and_parts (scalar c) (scalars cs) e in
    subst IsUtf8 (sym (flat_map-append quoted_byte (encode c) (encodes cs))) (IsUtf8-append (flat_map quoted_byte (encode c)) (flat_map quoted_byte (encodes cs)) (one_char c k.0) (all_chars cs k.1))

quoted_utf8 : (text : List ℕ) → IsUtf8 text → IsUtf8 (flat_map quoted_byte text)
quoted_utf8 text u = subst (λ bytes. IsUtf8 (flat_map quoted_byte bytes)) u.1.1 (all_chars u.0 u.1.0)

pub quoted_line : (text : List ℕ) → IsUtf8 text → IsLineText (quoted text)
quoted_line text u =
    let quote : IsLineText (codes "\"") = line_by (codes "\"") refl in
    let front = codes "\"" ++ flat_map quoted_byte text in (
      lacks_append 10 front (codes "\"") (lacks_append 10 (codes "\"") (flat_map quoted_byte text) quote.0 (all_lack text)) quote.0,
      λ other e. let last : 34 ≡ 13 = (same_from_push front other 34 13 e).1 in omega (arith, last),
      IsUtf8-append front (codes "\"") (IsUtf8-append (codes "\"") (flat_map quoted_byte text) quote.2 (quoted_utf8 text u)) quote.2,
    )

pub newline_utf8 : IsUtf8 (10 ∷ [])
newline_utf8 = ascii_then 10 [] (omega arith) IsUtf8-nil

-- ---- lists with commas between their items

pub listed_line : {T : Type 0} (text : T → List ℕ) (P : T → Type 0) → ((x : T) → P x → IsLineText (text x)) → (x : T) (xs : List T) → P x → All P xs → IsLineText (text x ++ flat_map (comma_then text) xs)
listed_line {T} text P line x xs h hs = line_append (text x) (flat_map (comma_then text) xs) (line x h) (others xs hs)
  where
    others : (ys : List T) → All P ys → IsLineText (flat_map (comma_then text) ys)
    others [] hs = line_nothing
    others (y ∷ ys) hs = line_append (comma_then text y) (flat_map (comma_then text) ys) (line_append (codes ",") (text y) (line_by (codes ",") refl) (line y (All-head P y ys hs))) (others ys (All-tail P y ys hs))

-- ---- what may not be there

pub line_if_there : {T : Type 0} (P : T → Type 0) (text : T → List ℕ) → ((x : T) → P x → IsLineText (text x)) → (o : Option T) → MatchOption o ⊤ P → MatchOption (option_map text o) ⊤ IsLineText
line_if_there P text line None h = tt
line_if_there P text line (Some x) h = line x h
