-- Laws of what is written of a text.
use Rattle.std.proofs.Common.{◌≡◌, ◌≢◌, ℕ, ◌==◌, List, [], ◌∷◌, ◌++◌, codes, arith, subst, sym, refl}
use Rattle.std.proofs.lemmas.Bool.{cond_both, eqb-true, eqb-false}
use Rattle.html.specs.Escaped.{escaped, escaped_byte, replacement}
use Rattle.html.specs.EscapedLaws.{IsInert, IsNoMarkup, IsEntityOf, IsShownAsItIs, Shows, less, greater, ampersand, quote, apostrophe, carriage_return, nothing, entity, itself, showable, showable_byte, NothingIsMarkup, TextsAreShown}

-- what is written of a byte, by cases
by_cases : (P : List ℕ → Type 0) (byte : ℕ) → (byte ≡ 60 → P (codes "&lt;")) → (byte ≡ 62 → P (codes "&gt;")) → (byte ≡ 38 → P (codes "&amp;")) → (byte ≡ 34 → P (codes "&quot;")) → (byte ≡ 39 → P (codes "&#39;")) → (byte ≡ 13 → P (codes "&#13;")) → (byte ≡ 0 → P replacement) → (IsNoMarkup byte → IsShownAsItIs byte → P (byte ∷ [])) → P (escaped_byte byte)
by_cases P byte lt gt amp quot apos cr zero other =
    cond_both (byte == 60) _ _ P (λ e. lt (eqb-true byte 60 e)) (λ no_lt.
    cond_both (byte == 62) _ _ P (λ e. gt (eqb-true byte 62 e)) (λ no_gt.
    cond_both (byte == 38) _ _ P (λ e. amp (eqb-true byte 38 e)) (λ no_amp.
    cond_both (byte == 34) _ _ P (λ e. quot (eqb-true byte 34 e)) (λ no_quot.
    cond_both (byte == 39) _ _ P (λ e. apos (eqb-true byte 39 e)) (λ no_apos.
    cond_both (byte == 13) _ _ P (λ e. cr (eqb-true byte 13 e)) (λ no_cr.
    cond_both (byte == 0) _ _ P (λ e. zero (eqb-true byte 0 e)) (λ no_zero.
    other (eqb-false byte 60 no_lt, eqb-false byte 62 no_gt, eqb-false byte 34 no_quot, eqb-false byte 39 no_apos)
    (record { no_entity = eqb-false byte 38 no_amp; no_tag = eqb-false byte 60 no_lt; not_dropped = eqb-false byte 0 no_zero; not_changed = eqb-false byte 13 no_cr }))))))))

-- a byte that is no markup and no & before what is inert
inert_byte : (byte : ℕ) (page : List ℕ) → IsNoMarkup byte → byte ≢ 38 → IsInert page → IsInert (byte ∷ page)
inert_byte byte page no_markup no_amp inert = (no_markup, λ amp. absurd (no_amp amp), inert)

-- each letter of an entity's name
inert_letter : (letter : ℕ) (page : List ℕ) → letter ≢ 60 → letter ≢ 62 → letter ≢ 34 → letter ≢ 39 → letter ≢ 38 → IsInert page → IsInert (letter ∷ page)
inert_letter letter page a b c d e inert = inert_byte letter page (a, b, c, d) e inert

pub nothing_is_markup : NothingIsMarkup
nothing_is_markup [] = tt
nothing_is_markup (byte ∷ text) =
    let inert = nothing_is_markup text in
    by_cases (λ piece. IsInert (piece ++ escaped text)) byte
    (λ _. grind (arith, inert_letter))
    (λ _. grind (arith, inert_letter))
    (λ _. grind (arith, inert_letter))
    (λ _. grind (arith, inert_letter))
    (λ _. grind (arith, inert_letter))
    (λ _. grind (arith, inert_letter))
    (λ _. grind (arith, inert_letter))
    (λ plain shown. inert_byte byte _ plain shown.no_entity inert)

-- an entity before what shows a text shows its byte before that text
shows_entity : (name page text : List ℕ) (byte of : ℕ) → IsEntityOf name of → showable_byte of ≡ of ∷ [] → byte ≡ of → Shows page text → Shows (name ++ page) (showable_byte byte ++ text)
shows_entity name page text byte of stands showable same shown =
    subst (λ b. Shows (name ++ page) (showable_byte b ++ text)) (sym same)
    (subst (λ bytes. Shows (name ++ page) (bytes ++ text)) (sym showable) (entity name page text of stands shown))

-- a byte that is shown as it is is one that can be shown
shows_itself : (byte : ℕ) (page text : List ℕ) → IsShownAsItIs byte → Shows page text → Shows (byte ∷ page) (showable_byte byte ++ text)
shows_itself byte page text as_it_is shown =
    cond_both (byte == 0) _ _ (λ bytes. Shows (byte ∷ page) (bytes ++ text))
    (λ zero. absurd (as_it_is.not_dropped (eqb-true byte 0 zero)))
    (λ _. itself byte page text as_it_is shown)

-- each byte of U+FFFD is shown as it is
shows_letter : (byte : ℕ) (page text : List ℕ) → byte ≢ 38 → byte ≢ 60 → byte ≢ 0 → byte ≢ 13 → Shows page text → Shows (byte ∷ page) (byte ∷ text)
shows_letter byte page text a b c d shown = itself byte page text (record { no_entity = a; no_tag = b; not_dropped = c; not_changed = d }) shown

shows_replacement : (page text : List ℕ) → Shows page text → Shows (replacement ++ page) (replacement ++ text)
shows_replacement page text shown = grind (arith, shows_letter)

pub texts_are_shown : TextsAreShown
texts_are_shown [] = nothing
texts_are_shown (byte ∷ text) =
    let shown = texts_are_shown text in
    by_cases (λ piece. Shows (piece ++ escaped text) (showable_byte byte ++ showable text)) byte
    (λ e. shows_entity (codes "&lt;") _ _ byte 60 less refl e shown)
    (λ e. shows_entity (codes "&gt;") _ _ byte 62 greater refl e shown)
    (λ e. shows_entity (codes "&amp;") _ _ byte 38 ampersand refl e shown)
    (λ e. shows_entity (codes "&quot;") _ _ byte 34 quote refl e shown)
    (λ e. shows_entity (codes "&#39;") _ _ byte 39 apostrophe refl e shown)
    (λ e. shows_entity (codes "&#13;") _ _ byte 13 carriage_return refl e shown)
    (λ e. subst (λ b. Shows (replacement ++ escaped text) (showable_byte b ++ showable text)) (sym e) (shows_replacement _ _ shown))
    (λ _ as_it_is. shows_itself byte _ _ as_it_is shown)
