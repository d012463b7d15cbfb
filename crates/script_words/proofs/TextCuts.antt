-- A text in quotes: the word that it is, and the front of what is left of a line.
use Rattle.std.proofs.Common.{◌≡◌, ◌≢◌, ℕ, ◌==◌, ◌||◌, List, [], ◌∷◌, ◌++◌, codes, flat_map, Bool, true, false, true≢false, Option, Some, None, IfSome, option_map, if◌then◌else◌, append-nil, append_assoc, arith, ap, sym, refl, subst, ◌∙◌, ⊎_elim}
use Rattle.std.specs.Str.{is_utf8}
use Rattle.std.proofs.lemmas.Bool.{cases_Bool, cond-false, cond-true}
use Rattle.std.proofs.lemmas.Bool.Decides.{nat_tests}
use Rattle.std.proofs.lemmas.Option.{none-some, same_Some}
use Rattle.script_words.specs.Cuts.{part_before, rest_behind}
use Rattle.script_words.specs.Fields.{Spot, begun_by, fields_of, words_from}
use Rattle.script_words.specs.Fields.Spot.{Escaped, Front, Name, Plain, Quoted}
use Rattle.script_words.specs.Meaning.{onward}
use Rattle.script_words.specs.Quoted.{quoted_byte}
use Rattle.script_words.specs.Texts.{as_text, behind_text, by_step, text_at, text_of, unquoted, unquoted_after, whole_text}
use Rattle.script_words.specs.declared.unquoting.InQuotes.{InQuotes}
use Rattle.script_words.specs.declared.unquoting.InQuotes.TheVariants.{Ends, Escapes, Gives}
use Rattle.script_words.proofs.FieldCuts.{plain_words}

-- the first of some words, and the others
abbrev pub front_of : List (List ℕ) → List ℕ
front_of [] = []
front_of (word ∷ others) = word

abbrev pub others_of : List (List ℕ) → List (List ℕ)
others_of [] = []
others_of (word ∷ others) = others

front_begun : (byte : ℕ) (words : List (List ℕ)) → front_of (begun_by byte words) ≡ byte ∷ front_of words
front_begun byte [] = refl
front_begun byte (word ∷ others) = refl

others_begun : (byte : ℕ) (words : List (List ℕ)) → others_of (begun_by byte words) ≡ others_of words
others_begun byte [] = refl
others_begun byte (word ∷ others) = refl

abbrev spot_of : Bool → Spot
spot_of true = Escaped
spot_of false = Quoted

abbrev up_to_space : List ℕ × List ℕ → List ℕ × List ℕ
up_to_space read = (read.0, part_before 32 read.1)

-- in the word the same text is read, and of what comes behind it the part before the next space
pub read_in_word : (takes_text : List ℕ → Bool) (is_escaped : Bool) (text inner : List ℕ)
    → unquoted_after text is_escaped (front_of (words_from takes_text (spot_of is_escaped) inner)) ≡ option_map up_to_space (unquoted_after text is_escaped inner)
unfolding unquoted_after words_from
read_in_word takes_text is_escaped text [] = refl
read_in_word takes_text true text (byte ∷ inner) =
    let words = words_from takes_text Quoted inner in
    ap (unquoted_after text true) (front_begun byte words) ∙ by (byte == 34 || byte == 92) (byte == 110) (λ so_far. read_in_word takes_text false so_far inner)
  where
    by : (a b : Bool) → ((so_far : List ℕ) → unquoted_after so_far false (front_of (words_from takes_text Quoted inner)) ≡ option_map up_to_space (unquoted_after so_far false inner))
        → by_step (if a then Some (Gives byte) else if b then Some (Gives 10) else None) text (front_of (words_from takes_text Quoted inner)) (λ next so_far. unquoted_after so_far next (front_of (words_from takes_text Quoted inner)))
        ≡ option_map up_to_space (by_step (if a then Some (Gives byte) else if b then Some (Gives 10) else None) text inner (λ next so_far. unquoted_after so_far next inner))
    by true b h = h (text ++ byte ∷ [])
    by false true h = h (text ++ 10 ∷ [])
    by false false h = refl
read_in_word takes_text false text (byte ∷ inner) =
    ap (unquoted_after text false) (front_begun byte _) ∙ by (byte == 34) (byte == 92) (λ so_far. read_in_word takes_text true so_far inner) (λ so_far. read_in_word takes_text false so_far inner)
  where
    by : (a b : Bool)
        → ((so_far : List ℕ) → unquoted_after so_far true (front_of (words_from takes_text Escaped inner)) ≡ option_map up_to_space (unquoted_after so_far true inner))
        → ((so_far : List ℕ) → unquoted_after so_far false (front_of (words_from takes_text Quoted inner)) ≡ option_map up_to_space (unquoted_after so_far false inner))
        → by_step (if a then Some Ends else if b then Some Escapes else Some (Gives byte)) text (front_of (words_from takes_text (if a then Plain else if b then Escaped else Quoted) inner))
        (λ next so_far. unquoted_after so_far next (front_of (words_from takes_text (if a then Plain else if b then Escaped else Quoted) inner)))
        ≡ option_map up_to_space (by_step (if a then Some Ends else if b then Some Escapes else Some (Gives byte)) text inner (λ next so_far. unquoted_after so_far next inner))
    by true b h k = ap (λ words. Some (text, front_of words)) (plain_words takes_text inner)
    by false true h k = h text
    by false false h k = k (text ++ byte ∷ [])

-- and the words behind it are those behind that space
pub left_of_word : (takes_text : List ℕ → Bool) (is_escaped : Bool) (text inner : List ℕ)
    → IfSome (unquoted_after text is_escaped inner) (λ read. others_of (words_from takes_text (spot_of is_escaped) inner) ≡ fields_of takes_text (rest_behind 32 read.1))
unfolding unquoted_after words_from
left_of_word takes_text is_escaped text [] = tt
left_of_word takes_text true text (byte ∷ inner) =
    by (byte == 34 || byte == 92) (byte == 110) (others_begun byte (words_from takes_text Quoted inner)) (λ so_far. left_of_word takes_text false so_far inner)
  where
    by : (a b : Bool) → others_of (begun_by byte (words_from takes_text Quoted inner)) ≡ others_of (words_from takes_text Quoted inner)
        → ((so_far : List ℕ) → IfSome (unquoted_after so_far false inner) (λ read. others_of (words_from takes_text Quoted inner) ≡ fields_of takes_text (rest_behind 32 read.1)))
        → IfSome (by_step (if a then Some (Gives byte) else if b then Some (Gives 10) else None) text inner (λ next so_far. unquoted_after so_far next inner))
        (λ read. others_of (begun_by byte (words_from takes_text Quoted inner)) ≡ fields_of takes_text (rest_behind 32 read.1))
    by true b e h = subst (λ others. IfSome (unquoted_after (text ++ byte ∷ []) false inner) (λ read. others ≡ fields_of takes_text (rest_behind 32 read.1))) (sym e) (h (text ++ byte ∷ []))
    by false true e h = subst (λ others. IfSome (unquoted_after (text ++ 10 ∷ []) false inner) (λ read. others ≡ fields_of takes_text (rest_behind 32 read.1))) (sym e) (h (text ++ 10 ∷ []))
    by false false e h = tt
left_of_word takes_text false text (byte ∷ inner) =
    by (byte == 34) (byte == 92) (λ so_far. left_of_word takes_text true so_far inner) (λ so_far. left_of_word takes_text false so_far inner)
  where
    by : (a b : Bool)
        → ((so_far : List ℕ) → IfSome (unquoted_after so_far true inner) (λ read. others_of (words_from takes_text Escaped inner) ≡ fields_of takes_text (rest_behind 32 read.1)))
        → ((so_far : List ℕ) → IfSome (unquoted_after so_far false inner) (λ read. others_of (words_from takes_text Quoted inner) ≡ fields_of takes_text (rest_behind 32 read.1)))
        → IfSome (by_step (if a then Some Ends else if b then Some Escapes else Some (Gives byte)) text inner (λ next so_far. unquoted_after so_far next inner))
        (λ read. others_of (begun_by byte (words_from takes_text (if a then Plain else if b then Escaped else Quoted) inner)) ≡ fields_of takes_text (rest_behind 32 read.1))
    by true b h k = others_begun byte (words_from takes_text Plain inner) ∙ ap others_of (plain_words takes_text inner)
    by false true h k = subst (λ others. IfSome (unquoted_after text true inner) (λ read. others ≡ fields_of takes_text (rest_behind 32 read.1))) (sym (others_begun byte (words_from takes_text Escaped inner))) (h text)
    by false false h k = subst (λ others. IfSome (unquoted_after (text ++ byte ∷ []) false inner) (λ read. others ≡ fields_of takes_text (rest_behind 32 read.1))) (sym (others_begun byte (words_from takes_text Quoted inner))) (k (text ++ byte ∷ []))

-- ---- a text that is read in one go is the first word

-- what is read in one go, and the words behind it
abbrev read_at_once : (List ℕ → Bool) → List ℕ → Option (List ℕ × List (List ℕ))
read_at_once takes_text text = option_map {U = List ℕ × List (List ℕ)} (λ (t : List ℕ × Option (List ℕ)). (t.0, fields_of takes_text t.1)) (text_at text)

-- the first word as a text, and the other words
abbrev read_by_words : List (List ℕ) → Option (List ℕ × List (List ℕ))
read_by_words words = option_map {U = List ℕ × List (List ℕ)} (λ (t : List ℕ). (t, others_of words)) (text_of (front_of words))

kept_text : (takes_text : List ℕ → Bool) (text : List ℕ) (left : Option (List ℕ)) (others : List (List ℕ)) → others ≡ fields_of takes_text left
    → option_map {U = List ℕ × List (List ℕ)} (λ (t : List ℕ × Option (List ℕ)). (t.0, fields_of takes_text t.1)) (onward (as_text text) (λ it. Some (it, left))) ≡ option_map {U = List ℕ × List (List ℕ)} (λ (t : List ℕ). (t, others)) (as_text text)
kept_text takes_text text left others e = by (is_utf8 text)
  where
    by : (b : Bool) → option_map {U = List ℕ × List (List ℕ)} (λ (t : List ℕ × Option (List ℕ)). (t.0, fields_of takes_text t.1)) (onward (if b then Some text else None) (λ it. Some (it, left)))
        ≡ option_map {U = List ℕ × List (List ℕ)} (λ (t : List ℕ). (t, others)) (if b then Some text else None)
    by true = ap (λ (o : List (List ℕ)). Some (text, o)) (sym e)
    by false = refl

behind_both : (takes_text : List ℕ → Bool) (text rest : List ℕ) (others : List (List ℕ)) → others ≡ fields_of takes_text (rest_behind 32 rest)
    → option_map {U = List ℕ × List (List ℕ)} (λ (t : List ℕ × Option (List ℕ)). (t.0, fields_of takes_text t.1)) (onward (behind_text rest) (λ left. onward (as_text text) (λ it. Some (it, left))))
    ≡ option_map {U = List ℕ × List (List ℕ)} (λ (t : List ℕ). (t, others)) (whole_text text (part_before 32 rest))
unfolding part_before rest_behind
behind_both takes_text text [] others e = kept_text takes_text text None others e
behind_both takes_text text (byte ∷ left) others e = by (byte == 32) e
  where
    by : (a : Bool) → others ≡ fields_of takes_text (if a then Some left else rest_behind 32 left)
        → option_map {U = List ℕ × List (List ℕ)} (λ (t : List ℕ × Option (List ℕ)). (t.0, fields_of takes_text t.1)) (onward (if a then Some (Some left) else None) (λ l. onward (as_text text) (λ it. Some (it, l))))
        ≡ option_map {U = List ℕ × List (List ℕ)} (λ (t : List ℕ). (t, others)) (whole_text text (if a then [] else byte ∷ part_before 32 left))
    by true e = kept_text takes_text text (Some left) others e
    by false e = refl

quoted_words : (takes_text : List ℕ → Bool) (inner : List ℕ) → read_at_once takes_text (34 ∷ inner) ≡ read_by_words (words_from takes_text Front (34 ∷ inner))
unfolding words_from
quoted_words takes_text inner =
    let words = words_from takes_text Quoted inner in
    by (unquoted inner) (left_of_word takes_text false [] inner)
    ∙ ap (λ (o : Option (List ℕ × List ℕ)). option_map {U = List ℕ × List (List ℕ)} (λ (t : List ℕ). (t, others_of words)) (onward o (λ read. whole_text read.0 read.1))) (sym (read_in_word takes_text false [] inner))
    ∙ ap (λ (w : List ℕ). option_map {U = List ℕ × List (List ℕ)} (λ (t : List ℕ). (t, others_of words)) (text_of w)) (sym (front_begun 34 words))
    ∙ ap (λ (o : List (List ℕ)). option_map {U = List ℕ × List (List ℕ)} (λ (t : List ℕ). (t, o)) (text_of (front_of (begun_by 34 words)))) (sym (others_begun 34 words))
  where
    by : (o : Option (List ℕ × List ℕ)) → IfSome o (λ read. others_of (words_from takes_text Quoted inner) ≡ fields_of takes_text (rest_behind 32 read.1))
        → option_map {U = List ℕ × List (List ℕ)} (λ (t : List ℕ × Option (List ℕ)). (t.0, fields_of takes_text t.1)) (onward o (λ read. onward (behind_text read.1) (λ left. onward (as_text read.0) (λ text. Some (text, left)))))
        ≡ option_map {U = List ℕ × List (List ℕ)} (λ (t : List ℕ). (t, others_of (words_from takes_text Quoted inner))) (onward (option_map up_to_space o) (λ read. whole_text read.0 read.1))
    by None e = refl
    by (Some read) e = behind_both takes_text read.0 read.1 (others_of (words_from takes_text Quoted inner)) e

pub text_words : (takes_text : List ℕ → Bool) (text : List ℕ) → read_at_once takes_text text ≡ read_by_words (words_from takes_text Front text)
unfolding words_from
text_words takes_text [] = refl
text_words takes_text (byte ∷ inner) = ⊎_elim
    (λ t. let is : byte ≡ 34 = grind (arith, nat_tests, t) in subst (λ b. read_at_once takes_text (b ∷ inner) ≡ read_by_words (words_from takes_text Front (b ∷ inner))) (sym is) (quoted_words takes_text inner))
    (λ f. ap (λ b. option_map {U = List ℕ × List (List ℕ)} (λ (t : List ℕ × Option (List ℕ)). (t.0, fields_of takes_text t.1)) (if b then onward (unquoted inner) (λ read. onward (behind_text read.1) (λ left. onward (as_text read.0) (λ text. Some (text, left)))) else None)) f ∙ other (byte == 32) f)
    (cases_Bool (byte == 34))
  where
    other : (b : Bool) → (byte == 34) ≡ false
        → None ≡ read_by_words (if b then [] ∷ words_from takes_text (Name []) inner else begun_by byte (words_from takes_text (if byte == 34 then Quoted else Plain) inner))
    other true f = refl
    other false f =
        let words = words_from takes_text (if byte == 34 then Quoted else Plain) inner in
        sym (ap (λ (w : List ℕ). option_map {U = List ℕ × List (List ℕ)} (λ (t : List ℕ). (t, others_of (begun_by byte words))) (text_of w)) (front_begun byte words)
        ∙ ap (λ (b : Bool). option_map {U = List ℕ × List (List ℕ)} (λ (t : List ℕ). (t, others_of (begun_by byte words))) (if b then onward (unquoted (front_of words)) (λ read. whole_text read.0 read.1) else None)) f)

-- ---- what is written in quotes is read

pub quoted_back : (read text more : List ℕ) → unquoted_after read false (flat_map quoted_byte text ++ 34 ∷ more) ≡ Some (read ++ text, more)
unfolding unquoted_after
quoted_back read [] more = ap (λ (r : List ℕ). Some (r, more)) (sym (append-nil read))
quoted_back read (byte ∷ text) more =
    ap (unquoted_after read false) (append_assoc (quoted_byte byte) (flat_map quoted_byte text) (34 ∷ more))
    ∙ by (byte == 34) (byte == 92) (byte == 10) (λ t. grind (arith, nat_tests, t)) (λ t. grind (arith, nat_tests, t)) (λ t. grind (arith, nat_tests, t)) refl refl (λ so_far. quoted_back so_far text more)
    ∙ ap (λ (r : List ℕ). Some (r, more)) (append_assoc read (byte ∷ []) text)
  where
    by : (a b c : Bool) → (a ≡ true → byte ≡ 34) → (b ≡ true → byte ≡ 92) → (c ≡ true → byte ≡ 10) → (byte == 34) ≡ a → (byte == 92) ≡ b
        → ((so_far : List ℕ) → unquoted_after so_far false (flat_map quoted_byte text ++ 34 ∷ more) ≡ Some (so_far ++ text, more))
        → unquoted_after read false ((if a then codes "\\\"" else if b then codes "\\\\" else if c then codes "\\n" else byte ∷ []) ++ (flat_map quoted_byte text ++ 34 ∷ more)) ≡ Some ((read ++ byte ∷ []) ++ text, more)
    by true b c p q r e f h = h (read ++ 34 ∷ []) ∙ ap (λ x. Some ((read ++ x ∷ []) ++ text, more)) (sym (p refl))
    by false true c p q r e f h = h (read ++ 92 ∷ []) ∙ ap (λ x. Some ((read ++ x ∷ []) ++ text, more)) (sym (q refl))
    by false false true p q r e f h = h (read ++ 10 ∷ []) ∙ ap (λ x. Some ((read ++ x ∷ []) ++ text, more)) (sym (r refl))
    by false false false p q r e f h =
        ap (λ (s : Option InQuotes). by_step s read (flat_map quoted_byte text ++ 34 ∷ more) (λ next so_far. unquoted_after so_far next (flat_map quoted_byte text ++ 34 ∷ more)))
        (ap (λ x. if x then Some Ends else if byte == 92 then Some Escapes else Some (Gives byte)) e ∙ ap (λ x. if x then Some Escapes else Some (Gives byte)) f)
        ∙ h (read ++ byte ∷ [])

-- ---- and the closing quote stands where it was found

pub closed_at : (text : List ℕ) (is_escaped : Bool) (bytes read rest : List ℕ) → unquoted_after text is_escaped bytes ≡ Some (read, rest) → (front : List ℕ) × (bytes ≡ front ++ codes "\"" ++ rest)
unfolding unquoted_after
closed_at text is_escaped [] read rest e = absurd (none-some (read, rest) e)
closed_at text true (byte ∷ others) read rest e = by (byte == 34 || byte == 92) (byte == 110) e (λ so_far h. closed_at so_far false others read rest h)
  where
    by : (a b : Bool) → by_step (if a then Some (Gives byte) else if b then Some (Gives 10) else None) text others (λ next so_far. unquoted_after so_far next others) ≡ Some (read, rest)
        → ((so_far : List ℕ) → unquoted_after so_far false others ≡ Some (read, rest) → (front : List ℕ) × (others ≡ front ++ codes "\"" ++ rest)) → (front : List ℕ) × (byte ∷ others ≡ front ++ codes "\"" ++ rest)
    by true b e h = let k = h (text ++ byte ∷ []) e in (byte ∷ k.0, ap (λ t. byte ∷ t) k.1)
    by false true e h = let k = h (text ++ 10 ∷ []) e in (byte ∷ k.0, ap (λ t. byte ∷ t) k.1)
    by false false e h = absurd (none-some (read, rest) e)
closed_at text false (byte ∷ others) read rest e =
    by (byte == 34) (byte == 92) (λ t. grind (arith, nat_tests, t)) e (λ so_far h. closed_at so_far true others read rest h) (λ so_far h. closed_at so_far false others read rest h)
  where
    by : (a b : Bool) → (a ≡ true → byte ≡ 34) → by_step (if a then Some Ends else if b then Some Escapes else Some (Gives byte)) text others (λ next so_far. unquoted_after so_far next others) ≡ Some (read, rest)
        → ((so_far : List ℕ) → unquoted_after so_far true others ≡ Some (read, rest) → (front : List ℕ) × (others ≡ front ++ codes "\"" ++ rest))
        → ((so_far : List ℕ) → unquoted_after so_far false others ≡ Some (read, rest) → (front : List ℕ) × (others ≡ front ++ codes "\"" ++ rest)) → (front : List ℕ) × (byte ∷ others ≡ front ++ codes "\"" ++ rest)
    by true b q e h k = ([], ap (λ x. x ∷ others) (q refl) ∙ ap (λ t. 34 ∷ t) (ap (λ (r : List ℕ × List ℕ). r.1) (same_Some (text, others) (read, rest) e)))
    by false true q e h k = let m = h text e in (byte ∷ m.0, ap (λ t. byte ∷ t) m.1)
    by false false q e h k = let m = k (text ++ byte ∷ []) e in (byte ∷ m.0, ap (λ t. byte ∷ t) m.1)
