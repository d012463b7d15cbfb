-- The text of a comment, as the calls on bytes give it.
use Rattle.std.proofs.Common.{◌≡◌, ◌≢◌, ◌≤◌, ◌<◌, ℕ, List, [], ◌∷◌, ◌++◌, All, Bool, false, arith, drop, length, take, get_or, ⊎_elim, refl, sym, ap, ◌∙◌}
use Rattle.std.specs.Prelude.{if◌then◌else◌, slice_index_or}
use Rattle.std.proofs.lemmas.Bool.Decides.{eqb_tells}
use Rattle.std.proofs.lemmas.List.{append-nil, get_or-take, length-take-le}
use Rattle.std.proofs.lemmas.List.Elements.{All-get_or}
use Rattle.std.proofs.lemmas.List.Sums.{prefix_len_is}
use Rattle.std.proofs.lemmas.Str.Ascii.{trim_ascii_is}
use Rattle.std.specs.Str.{IsTrimAscii}
use Rattle.script_lines.specs.Comments.{after_signs, comment_text, comment_with, is_sign, joined, space_between, without_space_after, without_space_before}

pub trimmed : (s r : List ℕ) → IsTrimAscii s r → r ≡ without_space_after (without_space_before s)
trimmed s r h = trim_ascii_is s r (without_space_before s) refl h

not_sign : (byte : ℕ) → byte ≢ 35 → is_sign byte ≡ false
not_sign byte other = ⊎_elim (λ same. absurd (other same.1)) (λ h. h.0) (eqb_tells byte 35)

pub after_these : (line : List ℕ) (n : ℕ) → n ≤ length line → All (λ byte. byte ≡ 35) (take n line) → (n < length line → slice_index_or line n 0 ≢ 35) → drop n line ≡ after_signs line
after_these line n within passes stops =
    let all : length (take n line) ≡ n = length-take-le n line within in
    ap (λ k. drop k line)
    (sym (prefix_len_is is_sign line n 0 within
    (λ k l. ap is_sign (sym (get_or-take n line k 0 l) ∙ All-get_or (λ byte. byte ≡ 35) (take n line) k 0 (omega arith) passes))
    (λ l. not_sign (get_or line n 0) (stops l))))

-- ---- a line and the comment so far

no_line : (x : ℕ) (xs : List ℕ) → length (x ∷ xs) ≡ 0 → ⊥
no_line x xs e = omega arith

some_line : 0 < 0 → ⊥
some_line l = omega arith

pub line_is_empty : (comment line : List ℕ) → length line ≡ 0 → [] ≡ comment_with comment line
line_is_empty comment [] e = refl
line_is_empty comment (x ∷ xs) e = absurd (no_line x xs e)

pub line_is_comment : (comment line : List ℕ) → 0 < length line → slice_index_or line 0 0 ≡ 35 → joined comment (comment_text line) ≡ comment_with comment line
line_is_comment comment [] l e = absurd (some_line l)
line_is_comment comment (x ∷ xs) l e = sym (ap (λ (b : Bool). if b then joined comment (comment_text (x ∷ xs)) else comment) (ap is_sign e))

pub line_is_other : (comment line : List ℕ) → 0 < length line → slice_index_or line 0 0 ≢ 35 → comment ≡ comment_with comment line
line_is_other comment [] l e = absurd (some_line l)
line_is_other comment (x ∷ xs) l e = sym (ap (λ (b : Bool). if b then joined comment (comment_text (x ∷ xs)) else comment) (not_sign x e))

-- ---- a space between two texts

pub nothing_before : (before after : List ℕ) → length before ≡ 0 → before ≡ before ++ space_between before after
nothing_before [] after e = refl
nothing_before (x ∷ xs) after e = absurd (no_line x xs e)

pub nothing_after : (before after : List ℕ) → length after ≡ 0 → before ≡ before ++ space_between before after
nothing_after [] after e = refl
nothing_after (x ∷ xs) [] e = sym (append-nil (x ∷ xs))
nothing_after (x ∷ xs) (y ∷ ys) e = absurd (no_line y ys e)

pub space_is : (before after : List ℕ) → 0 < length before → 0 < length after → before ++ 32 ∷ [] ≡ before ++ space_between before after
space_is [] after l k = absurd (some_line l)
space_is (x ∷ xs) [] l k = absurd (some_line k)
space_is (x ∷ xs) (y ∷ ys) l k = refl
