-- What is written part by part.
use Rattle.std.proofs.Common.{◌≡◌, ℕ, ◌+◌, ◌<◌, List, [], ◌∷◌, ◌++◌, get_or, take, map, length, Bor, Option, Some, None, sym, ap, ◌∙◌, append-nil, append_assoc}
use Rattle.std.specs.Prelude.{IfSome, codes, flat_map, option_copied, replicate}
use Rattle.std.proofs.lemmas.Grind.{replicate_next}
use Rattle.std.proofs.lemmas.List.{take_more}
use Rattle.std.proofs.lemmas.List.Concat.{flat_map-append}
use Rattle.std.proofs.lemmas.List.Folds.{flat_map-map}
use Rattle.page_states.specs.Nesting.{times}
use Rattle.page_states.specs.Rows.{words_text}
use Rattle.page_states.specs.Written.{word_text}

pub once_more : (count : ℕ) (text : List ℕ) → times count text ++ text ≡ times (count + 1) text
once_more count text =
    sym (ap (flat_map (λ (part : List ℕ). part)) (replicate_next count text)
    ∙ flat_map-append (λ (part : List ℕ). part) (replicate count text) (text ∷ [])
    ∙ ap (λ t. times count text ++ t) (append-nil text))

pub if_some : {A : Type 0} {P Q : A → Type 0} (r : Option A) → ((x : A) → P x → Q x) → IfSome r P → IfSome r Q
if_some None f h = tt
if_some (Some x) f h = f x h

-- one more item was taken of those that are left
pub one_taken : {A : Type 0} (all taken left more : List A) (x : A) → all ≡ taken ++ left → left ≡ x ∷ more → all ≡ (taken ++ x ∷ []) ++ more
one_taken all taken left more x h e = h ∙ ap (λ xs. taken ++ xs) e ∙ sym (append_assoc taken (x ∷ []) more)

-- the texts of the items so far, and that of the next one
pub each_more : {A : Type 0} (text : A → List ℕ) (items : List A) (i : ℕ) (d : A) → i < length items →
    flat_map text (take i items) ++ text (get_or items i d) ≡ flat_map text (take (i + 1) items)
each_more text items i d within =
    ap (λ t. flat_map text (take i items) ++ t) (sym (append-nil (text (get_or items i d))))
    ∙ sym (flat_map-append text (take i items) (get_or items i d ∷ []))
    ∙ ap (flat_map text) (sym (take_more items i d within))

-- the words of a row, as a function is given them
abbrev pub word_given : Option (Bor (List ℕ)) → List ℕ
word_given word = word_text (codes "i") (codes "w") (option_copied word)

abbrev pub words_given : List (Option (Bor (List ℕ))) → List ℕ
words_given words = flat_map word_given words

pub words_one : (words : List (Option (Bor (List ℕ)))) → words_given words ≡ words_text (map option_copied words)
words_one words = sym (flat_map-map (word_text (codes "i") (codes "w")) option_copied words)
