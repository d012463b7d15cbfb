-- The fields of an update's head, as a reader goes over them.
use Rattle.std.proofs.Common.{◌≡◌, ℕ, List, [], ◌∷◌, ◌++◌, codes, bytes_eq, true, false, Option, Some, None, option_map, append_assoc, ap, sym, refl, subst, ◌∙◌, ⊎_elim}
use Rattle.std.proofs.lemmas.Bool.{cases_Bool, cond-false}
use Rattle.std.proofs.lemmas.Slice.Eq.{bytes_eq-Decides}
use Rattle.schema.specs.declared.NodeId.{NodeId}
use Rattle.script_lines.specs.HeadMeaning.{by_value, field_means, once, once_next, takes_text, value_at, value_means}
use Rattle.script_lines.specs.LineReading.{HeadData}
use Rattle.script_words.specs.Cuts.{part_before, rest_behind}
use Rattle.script_words.specs.Fields.{begun_with, fields_of, name_of, one_word, value_of, value_spot, words_from}
use Rattle.script_words.specs.Fields.Spot.{Front, Name, Plain}
use Rattle.script_words.specs.Meaning.{next_as, next_word, onward, some_word}
use Rattle.script_words.specs.Reading.{Lacks}
use Rattle.script_words.specs.Texts.{next_text, text_at, text_of}
use Rattle.script_words.specs.WordValues.{id_of, number_of}
use Rattle.script_words.proofs.FieldReads.{flag_word}
use Rattle.script_words.proofs.FieldCuts.{flag_is, name_is, name_words, plain_words, value_is}
use Rattle.script_words.proofs.TextCuts.{front_of, others_of, text_words}

-- the words behind what is read
abbrev with_words : HeadData × Option (List ℕ) → HeadData × List (List ℕ)
with_words read = (read.0, fields_of takes_text read.1)

-- what is read, and then these words
abbrev and_words : List (List ℕ) → HeadData → Option (HeadData × List (List ℕ))
and_words others next = Some (next, others)

-- the value at the front of these words
abbrev at_value : List ℕ → List (List ℕ) → HeadData → Option (HeadData × List (List ℕ))
at_value name words head = onward (value_means name (front_of words) head) (and_words (others_of words))

named : (name value : List ℕ) (others : List (List ℕ)) (head : HeadData) → Lacks 61 name → onward (field_means (name ++ 61 ∷ value) head) (and_words others) ≡ onward (value_means name value head) (and_words others)
named name value others head lacks =
    ap (λ n. onward (by_value n (value_of (name ++ 61 ∷ value)) head) (and_words others)) (name_is name value lacks)
    ∙ ap (λ v. onward (by_value name v head) (and_words others)) (value_is name value lacks)

begun_word : (name : List ℕ) (words : List (List ℕ)) (head : HeadData) → Lacks 61 name → one_word field_means (begun_with (name ++ 61 ∷ []) words) head ≡ at_value name words head
begun_word name [] head lacks = named name [] [] head lacks
begun_word name (value ∷ others) head lacks = ap (λ w. onward (field_means w head) (and_words others)) (append_assoc name (61 ∷ []) value) ∙ named name value others head lacks

-- ---- an id

-- the field with this value
abbrev put_value : {T : Type 0} → (T → HeadData) → T → Option HeadData
put_value put value = Some (put value)

-- and the line behind it
abbrev put_next : {T : Type 0} → (T → HeadData) → T × Option (List ℕ) → Option (HeadData × Option (List ℕ))
put_next put read = Some (put read.0, read.1)

-- an id, and the line behind it
abbrev id_before : Option (List ℕ) → NodeId → Option (NodeId × Option (List ℕ))
id_before left id = Some (id, left)

abbrev id_in : List ℕ × Option (List ℕ) → Option (NodeId × Option (List ℕ))
id_in word = onward (id_of word.0) (id_before word.1)

abbrev map_words : Option (HeadData × Option (List ℕ)) → Option (HeadData × List (List ℕ))
map_words o = option_map {U = HeadData × List (List ℕ)} with_words o

id_field : (slot : Option NodeId) (put : NodeId → HeadData) (more : List ℕ)
    → onward (onward (once slot (id_of (front_of (words_from takes_text Plain more)))) (put_value put)) (and_words (others_of (words_from takes_text Plain more)))
    ≡ map_words (onward (once_next slot (next_as id_of (Some more))) (put_next put))
unfolding number_of
id_field slot put more =
    ap (λ (words : List (List ℕ)). onward (onward (once slot (id_of (front_of words))) (put_value put)) (and_words (others_of words))) (plain_words takes_text more) ∙ by slot (part_before 32 more)
  where
    read : (o : Option NodeId) → onward (onward o (put_value put)) (and_words (fields_of takes_text (rest_behind 32 more))) ≡ map_words (onward (onward o (id_before (rest_behind 32 more))) (put_next put))
    read None = refl
    read (Some id) = refl

    by : (slot : Option NodeId) (part : List ℕ)
        → onward (onward (once slot (id_of part)) (put_value put)) (and_words (fields_of takes_text (rest_behind 32 more)))
        ≡ map_words (onward (once_next slot (onward (some_word part (rest_behind 32 more)) id_in)) (put_next put))
    by (Some old) part = refl
    by None [] = refl
    by None (byte ∷ part) = read (id_of (byte ∷ part))

-- ---- a text

-- a text, and the words or the line behind it
abbrev text_and : List (List ℕ) → List ℕ → List ℕ × List (List ℕ)
text_and others text = (text, others)

abbrev put_text : (List ℕ → HeadData) → List ℕ × List (List ℕ) → Option (HeadData × List (List ℕ))
put_text put read = Some (put read.0, read.1)

abbrev text_words_of : List ℕ × Option (List ℕ) → List ℕ × List (List ℕ)
text_words_of read = (read.0, fields_of takes_text read.1)

from_words : (put : List ℕ → HeadData) (o : Option (List ℕ)) (others : List (List ℕ)) → onward (onward o (put_value put)) (and_words others) ≡ onward (option_map (text_and others) o) (put_text put)
from_words put None others = refl
from_words put (Some t) others = refl

from_line : (put : List ℕ → HeadData) (o : Option (List ℕ × Option (List ℕ))) → onward (option_map text_words_of o) (put_text put) ≡ map_words (onward o (put_next put))
from_line put None = refl
from_line put (Some t) = refl

text_field : (slot : Option (List ℕ)) (put : List ℕ → HeadData) (more : List ℕ)
    → onward (onward (once slot (text_of (front_of (words_from takes_text Front more)))) (put_value put)) (and_words (others_of (words_from takes_text Front more)))
    ≡ map_words (onward (once_next slot (next_text (Some more))) (put_next put))
text_field (Some old) put more = refl
text_field None put more =
    from_words put (text_of (front_of (words_from takes_text Front more))) (others_of (words_from takes_text Front more))
    ∙ ap (λ (o : Option (List ℕ × List (List ℕ))). onward o (put_text put)) (sym (text_words takes_text more))
    ∙ from_line put (text_at more)

-- ---- by its name

is_named : (name known : List ℕ) → bytes_eq name known ≡ true → name ≡ known
is_named name known t = (bytes_eq-Decides name known).0 t

abbrev SameAt : List ℕ → List ℕ → HeadData → Type 0
SameAt more name head =
    at_value name (words_from takes_text (value_spot takes_text name) more) head ≡ option_map {U = HeadData × List (List ℕ)} with_words (value_at name (Some more) head)

same_value : (more name : List ℕ) (head : HeadData) → SameAt more name head
same_value more name head = ⊎_elim
    (λ t. subst (λ n. SameAt more n head) (sym (is_named name (codes "focus") t)) (id_field head.focus (λ id. record head { focus = Some id }) more))
    (λ f. ⊎_elim
    (λ t. subst (λ n. SameAt more n head) (sym (is_named name (codes "root") t)) (id_field head.root (λ id. record head { root = Some id }) more))
    (λ r. ⊎_elim
    (λ t. subst (λ n. SameAt more n head) (sym (is_named name (codes "toolkit") t)) (text_field head.toolkit (λ text. record head { toolkit = Some text }) more))
    (λ t. ⊎_elim
    (λ v. subst (λ n. SameAt more n head) (sym (is_named name (codes "version") v)) (text_field head.version (λ text. record head { version = Some text }) more))
    (λ v. other f r t v)
    (cases_Bool (bytes_eq name (codes "version"))))
    (cases_Bool (bytes_eq name (codes "toolkit"))))
    (cases_Bool (bytes_eq name (codes "root"))))
    (cases_Bool (bytes_eq name (codes "focus")))
  where
    other : bytes_eq name (codes "focus") ≡ false → bytes_eq name (codes "root") ≡ false → bytes_eq name (codes "toolkit") ≡ false → bytes_eq name (codes "version") ≡ false → SameAt more name head
    other f r t v =
        let words = words_from takes_text (value_spot takes_text name) more in
        let none : value_means name (front_of words) head ≡ None = cond-false _ _ _ f ∙ cond-false _ _ _ r ∙ cond-false _ _ _ t ∙ cond-false _ _ _ v in
        let no_value : value_at name (Some more) head ≡ None = cond-false _ _ _ f ∙ cond-false _ _ _ r ∙ cond-false _ _ _ t ∙ cond-false _ _ _ v in
        ap (λ (o : Option HeadData). onward o (and_words (others_of words))) none ∙ sym (ap (option_map {U = HeadData × List (List ℕ)} with_words) no_value)

-- a field with a value is the first word, as its value is read behind its name
pub valued_field : (line name more : List ℕ) (head : HeadData) → line ≡ name ++ (61 ∷ more) → Lacks 61 name → Lacks 32 name
    → one_word field_means (fields_of takes_text (Some line)) head ≡ option_map {U = HeadData × List (List ℕ)} with_words (value_at name (Some more) head)
valued_field line name more head e equals space =
    ap (λ words. one_word field_means words head) (ap (words_from takes_text (Name [])) e ∙ name_words takes_text [] name more space equals)
    ∙ begun_word name (words_from takes_text (value_spot takes_text name) more) head equals
    ∙ same_value more name head

-- a name without a value is no field
pub flag_field : (line : Option (List ℕ)) (name : List ℕ) (left : Option (List ℕ)) (head : HeadData) → next_word line ≡ Some (name, left) → Lacks 61 name → one_word field_means (fields_of takes_text line) head ≡ None
flag_field line name left head e lacks =
    flag_word takes_text field_means line name left head e lacks
    ∙ ap (λ v. onward (by_value (name_of name) v head) (and_words (fields_of takes_text left))) (flag_is name lacks).1
