-- A text is cut at the first such byte.
use Rattle.std.proofs.Common.{◌≡◌, ◌≢◌, ℕ, ◌==◌, ◌<◌, List, [], ◌∷◌, ◌++◌, length, Option, Some, None, if◌then◌else◌, Bool, true, false, arith, ap, sym, refl, ◌∙◌, subst, Bor, option_map, ok_or, Result}
use Rattle.std.proofs.lemmas.Bool.{cases_Bool, cond-true, cond-false}
use Rattle.std.proofs.lemmas.Bool.Decides.{nat_tests}
use Rattle.script_words.specs.Cuts.{halves, part_before, rest_behind}
use Rattle.script_words.specs.Meaning.{Takes, next_as, next_word, onward, some_word}
use Rattle.script_words.specs.declared.stops.Stop.{Stop}
use Rattle.script_words.specs.declared.stops.Stop.TheVariants.{BadLine}
use Rattle.script_words.specs.Reading.{Lacks, behind}
use Rattle.script_words.proofs.Cuts.{cut_at}
use Rattle.std.proofs.lemmas.Str.Pattern.{IsSplitOnceResult}
use Rattle.script_words.proofs.Lacking.{lacks_cons, lacks_nothing}

pub part_lacks : (mark : ℕ) (text : List ℕ) → Lacks mark (part_before mark text)
unfolding part_before
part_lacks mark [] = lacks_nothing mark
part_lacks mark (byte ∷ text) = by (byte == mark) (λ s. grind (arith, nat_tests, s)) (part_lacks mark text)
  where
    by : (b : Bool) → (b ≡ false → byte ≢ mark) → Lacks mark (part_before mark text) → Lacks mark (if b then [] else byte ∷ part_before mark text)
    by true other lacks = lacks_nothing mark
    by false other lacks = lacks_cons mark byte (part_before mark text) (other refl) lacks

pub parts_whole : (mark : ℕ) (text : List ℕ) → text ≡ part_before mark text ++ behind mark (rest_behind mark text)
unfolding part_before rest_behind
parts_whole mark [] = refl
parts_whole mark (byte ∷ text) = by (byte == mark) (λ s. grind (arith, nat_tests, s)) (parts_whole mark text)
  where
    by : (b : Bool) → (b ≡ true → byte ≡ mark) → text ≡ part_before mark text ++ behind mark (rest_behind mark text)
        → byte ∷ text ≡ (if b then [] else byte ∷ part_before mark text) ++ behind mark (if b then Some text else rest_behind mark text)
    by true same whole = ap (λ c. c ∷ text) (same refl)
    by false same whole = ap (λ t. byte ∷ t) whole

-- what a cut promises of each text that lacks the byte is so of the parts
abbrev pub IsCutAt : ℕ → List ℕ → List ℕ → Option (List ℕ) → Type 0
IsCutAt mark line part after = (text : List ℕ) (rest : Option (List ℕ)) → Lacks mark text → line ≡ text ++ behind mark rest → (part ≡ text) × (after ≡ rest)

pub cut_parts : (mark : ℕ) (line part : List ℕ) (after : Option (List ℕ)) → IsCutAt mark line part after → (part ≡ part_before mark line) × (after ≡ rest_behind mark line)
cut_parts mark line part after cut = cut (part_before mark line) (rest_behind mark line) (part_lacks mark line) (parts_whole mark line)

pub is_some_word : (word : List ℕ) (left : Option (List ℕ)) → (length word == 0) ≡ false → some_word word left ≡ Some (word, left)
is_some_word [] left e = absurd (grind (arith, nat_tests, e))
is_some_word (byte ∷ word) left e = refl

pub is_no_word : (word : List ℕ) (left : Option (List ℕ)) → (length word == 0) ≡ true → some_word word left ≡ None
is_no_word [] left e = refl
is_no_word (byte ∷ word) left e = absurd (grind (arith, nat_tests, e))

-- the next word is one, and stands for a value or for none
pub one_taken : {T : Type 0} (meaning : List ℕ → Option T) (line left : Option (List ℕ)) (word : List ℕ) → next_word line ≡ Some (word, left) → next_as meaning line ≡ onward (meaning word) (λ value. Some (value, left))
one_taken meaning line left word e = ap (λ o. onward o (λ word. onward (meaning word.0) (λ value. Some (value, word.1)))) e

pub none_taken : {T : Type 0} (meaning : List ℕ → Option T) (line : Option (List ℕ)) → next_word line ≡ None → next_as meaning line ≡ None
none_taken meaning line e = ap (λ o. onward o (λ word. onward (meaning word.0) (λ value. Some (value, word.1)))) e

-- the next word is read as its value, as `ok_or` has it
pub taken_or_bad : {T : Type 0} (meaning : List ℕ → Option T) (line left : Option (List ℕ)) (word : List ℕ) (read : Option T) (result : Result T Stop)
    → next_word line ≡ Some (word, left) → read ≡ meaning word → result ≡ ok_or read BadLine → Takes (next_as meaning line) result left
taken_or_bad {T} meaning line left word read result e is value =
    subst (λ (r : Result T Stop). Takes (next_as meaning line) r left) (sym value) (by read (one_taken meaning line left word e ∙ ap (λ o. onward o (λ v. Some (v, left))) (sym is)))
  where
    by : (read : Option T) → next_as meaning line ≡ onward read (λ v. Some (v, left)) → Takes (next_as meaning line) (ok_or read BadLine) left
    by None k = (refl, k)
    by (Some v) k = k

-- the two parts of a split are the halves
pub split_parts_are : (mark : ℕ) → mark < 128 → (word : List ℕ) (r : Option (Bor (List ℕ) × Bor (List ℕ))) → IsSplitOnceResult mark word r → option_map (λ parts. (parts.0.now, parts.1.now)) r ≡ halves mark word
split_parts_are mark low word None h =
    let k = cut_at mark low word (part_before mark word) (rest_behind mark word) None (part_lacks mark word) (parts_whole mark word) h in
    sym (ap (option_map (λ rest. (part_before mark word, rest))) k.0)
split_parts_are mark low word (Some x) h =
    let k = cut_at mark low word (part_before mark word) (rest_behind mark word) (Some x) (part_lacks mark word) (parts_whole mark word) h in
    ap (λ part. Some (part, x.1.now)) k.0 ∙ sym (ap (option_map (λ rest. (part_before mark word, rest))) k.1)
