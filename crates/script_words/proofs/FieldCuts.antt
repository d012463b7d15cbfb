-- The fields of a line, as they are cut off it.
use Rattle.std.proofs.Common.{◌≡◌, ◌≢◌, ℕ, ◌==◌, suc, List, [], ◌∷◌, ◌++◌, Bool, true, false, Option, Some, None, if◌then◌else◌, append-nil, append_assoc, arith, ap, sym, refl, ◌∙◌}
use Rattle.std.proofs.lemmas.Bool.{cond-false, cond-true}
use Rattle.std.proofs.lemmas.Bool.Decides.{nat_tests}
use Rattle.script_words.specs.Cuts.{part_before, rest_behind}
use Rattle.script_words.specs.Fields.{Spot, after_byte, begun_by, begun_with, fields_of, name_of, value_of, value_spot, words_from}
use Rattle.script_words.specs.Fields.Spot.{Name, Plain}
use Rattle.script_words.specs.Reading.{Lacks}

-- a value that is no text ends at the next space
pub plain_words : (takes_text : List ℕ → Bool) (text : List ℕ) → words_from takes_text Plain text ≡ part_before 32 text ∷ fields_of takes_text (rest_behind 32 text)
unfolding words_from part_before rest_behind
plain_words takes_text [] = refl
plain_words takes_text (byte ∷ text) = by (byte == 32) (plain_words takes_text text)
  where
    by : (b : Bool) → words_from takes_text Plain text ≡ part_before 32 text ∷ fields_of takes_text (rest_behind 32 text)
        → (if b then [] ∷ words_from takes_text (Name []) text else begun_by byte (words_from takes_text Plain text))
        ≡ (if b then [] else byte ∷ part_before 32 text) ∷ fields_of takes_text (if b then Some text else rest_behind 32 text)
    by true h = refl
    by false h = ap (begun_by byte) h

begun_once : (byte : ℕ) (words : List (List ℕ)) → begun_by byte words ≡ begun_with (byte ∷ []) words
begun_once byte [] = refl
begun_once byte (word ∷ others) = refl

begun_more : (byte : ℕ) (front : List ℕ) (words : List (List ℕ)) → begun_by byte (begun_with front words) ≡ begun_with (byte ∷ front) words
begun_more byte front [] = refl
begun_more byte front (word ∷ others) = refl

not_eq : (a b : ℕ) → a ≢ b → (a == b) ≡ false
not_eq a b other = grind (arith, nat_tests, other)

-- a name and its equals sign are cut off its value
pub name_words : (takes_text : List ℕ → Bool) (read name more : List ℕ) → Lacks 32 name → Lacks 61 name
    → words_from takes_text (Name read) (name ++ 61 ∷ more) ≡ begun_with (name ++ 61 ∷ []) (words_from takes_text (value_spot takes_text (read ++ name)) more)
unfolding words_from
name_words takes_text read [] more space equals =
    begun_once 61 (words_from takes_text (value_spot takes_text read) more) ∙ ap (λ n. begun_with (61 ∷ []) (words_from takes_text (value_spot takes_text n) more)) (sym (append-nil read))
name_words takes_text read (byte ∷ name) more space equals =
    let no_space : (byte == 32) ≡ false = not_eq byte 32 (space 0 (omega arith)) in
    let no_sign : (byte == 61) ≡ false = not_eq byte 61 (equals 0 (omega arith)) in
    let rest = name_words takes_text (read ++ byte ∷ []) name more (λ i l. space (suc i) (omega (arith, l))) (λ i l. equals (suc i) (omega (arith, l))) in
    cond-false _ _ _ no_space
    ∙ ap (λ b. begun_by byte (words_from takes_text (if b then value_spot takes_text read else Name (read ++ byte ∷ [])) (name ++ 61 ∷ more))) no_sign
    ∙ ap (begun_by byte) rest
    ∙ begun_more byte (name ++ 61 ∷ []) (words_from takes_text (value_spot takes_text ((read ++ byte ∷ []) ++ name)) more)
    ∙ ap (λ n. begun_with (byte ∷ (name ++ 61 ∷ [])) (words_from takes_text (value_spot takes_text n) more)) (append_assoc read (byte ∷ []) name)

-- a name without a value ends at the next space
pub flag_words : (takes_text : List ℕ → Bool) (read text : List ℕ) → Lacks 61 (part_before 32 text) → words_from takes_text (Name read) text ≡ part_before 32 text ∷ fields_of takes_text (rest_behind 32 text)
unfolding words_from part_before rest_behind
flag_words takes_text read [] lacks = refl
flag_words takes_text read (byte ∷ text) lacks = by (byte == 32) refl lacks (λ l. flag_words takes_text (read ++ byte ∷ []) text l)
  where
    by : (b : Bool) → (byte == 32) ≡ b → Lacks 61 (if b then [] else byte ∷ part_before 32 text)
        → (Lacks 61 (part_before 32 text) → words_from takes_text (Name (read ++ byte ∷ [])) text ≡ part_before 32 text ∷ fields_of takes_text (rest_behind 32 text))
        → (if b then [] ∷ words_from takes_text (Name []) text else begun_by byte (words_from takes_text (after_byte takes_text (Name read) byte) text))
        ≡ (if b then [] else byte ∷ part_before 32 text) ∷ fields_of takes_text (if b then Some text else rest_behind 32 text)
    by true e l h = refl
    by false e l h =
        ap (λ b. begun_by byte (words_from takes_text (if b then value_spot takes_text read else Name (read ++ byte ∷ [])) text)) (not_eq byte 61 (l 0 (omega arith)))
        ∙ ap (begun_by byte) (h (λ i k. l (suc i) (omega (arith, k))))

-- the parts of a word with an equals sign behind a name
pub name_is : (name more : List ℕ) → Lacks 61 name → name_of (name ++ 61 ∷ more) ≡ name
unfolding part_before
name_is [] more lacks = refl
name_is (byte ∷ name) more lacks = cond-false _ _ _ (not_eq byte 61 (lacks 0 (omega arith))) ∙ ap (λ n. byte ∷ n) (name_is name more (λ i l. lacks (suc i) (omega (arith, l))))

pub value_is : (name more : List ℕ) → Lacks 61 name → value_of (name ++ 61 ∷ more) ≡ Some more
unfolding rest_behind
value_is [] more lacks = refl
value_is (byte ∷ name) more lacks = cond-false _ _ _ (not_eq byte 61 (lacks 0 (omega arith))) ∙ value_is name more (λ i l. lacks (suc i) (omega (arith, l)))

pub flag_is : (name : List ℕ) → Lacks 61 name → (name_of name ≡ name) × (value_of name ≡ None)
unfolding part_before rest_behind
flag_is [] lacks = (refl, refl)
flag_is (byte ∷ name) lacks =
    let other = not_eq byte 61 (lacks 0 (omega arith)) in
    let k = flag_is name (λ i l. lacks (suc i) (omega (arith, l))) in
    (cond-false _ _ _ other ∙ ap (λ n. byte ∷ n) k.0, cond-false _ _ _ other ∙ k.1)
