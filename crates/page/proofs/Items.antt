-- The items of states that are counted.
use Rattle.std.proofs.Common.{◌≡◌, ℕ, ◌+◌, ◌<◌, arith, List, [], ◌∷◌, ◌++◌, length, get_or, take, drop, Option, sym, ap, subst, ◌∙◌, take-append-drop}
use Rattle.std.proofs.lemmas.List.{append-nil, append_assoc, length-take-le, take_more}
use Rattle.std.specs.Io.KnownBytes.{Appends}
use Rattle.html.specs.Written.{AppendsBeginning}
use Rattle.html.proofs.Beginnings.{of_longer, past}
use Rattle.page.specs.declared.sections.Titled.{Titled}
use Rattle.page.specs.States.{item_text, items_from}

items_push : (number k : ℕ) (its : List Titled) (it : Titled) → length its ≡ k → items_from number (its ++ it ∷ []) ≡ items_from number its ++ item_text (number + k) it
items_push number k [] it e = let same : number ≡ number + k = omega arith in append-nil (item_text number it) ∙ ap (λ n. item_text n it) same
items_push number k (first ∷ its) it e =
    let same : number + 1 + length its ≡ number + k = omega arith in
    ap (λ t. item_text number first ++ t) (items_push (number + 1) (length its) its it (λ i. length its) ∙ ap (λ n. items_from (number + 1) its ++ item_text n it) same)
    ∙ sym (append_assoc (item_text number first) (items_from (number + 1) its) (item_text (number + k) it))

-- one more
pub items_more : (states : List Titled) (i : ℕ) (it : Titled) → i < length states → items_from 1 (take (i + 1) states) ≡ items_from 1 (take i states) ++ item_text (i + 1) (get_or states i it)
items_more states i it within =
    let same : 1 + i ≡ i + 1 = omega arith in
    ap (items_from 1) (take_more states i it within) ∙ items_push 1 i (take i states) (get_or states i it) (length-take-le i states (omega arith))
    ∙ ap (λ n. items_from 1 (take i states) ++ item_text n (get_or states i it)) same

items_append : (number : ℕ) (its more : List Titled) → items_from number (its ++ more) ≡ items_from number its ++ items_from (number + length its) more
items_append number [] more = let same : number ≡ number + 0 = omega arith in ap (λ n. items_from n more) same
items_append number (first ∷ its) more =
    let same : number + 1 + length its ≡ number + length (first ∷ its) = omega arith in
    ap (λ t. item_text number first ++ t) (items_append (number + 1) its more ∙ ap (λ n. items_from (number + 1) its ++ items_from n more) same)
    ∙ sym (append_assoc (item_text number first) (items_from (number + 1) its) (items_from (number + length (first ∷ its)) more))

items_whole : (states : List Titled) (i : ℕ) → items_from 1 states ≡ items_from 1 (take (i + 1) states) ++ items_from (1 + length (take (i + 1) states)) (drop (i + 1) states)
items_whole states i = ap (items_from 1) (sym (take-append-drop (i + 1) states)) ∙ items_append 1 (take (i + 1) states) (drop (i + 1) states)

-- of the items before a place all is written, and of the one there a beginning
pub items_cut : (states : List Titled) (i : ℕ) (it : Titled) → i < length states → (a b c : Option (List ℕ)) → Appends a b (items_from 1 (take i states)) →
    AppendsBeginning b c (item_text (i + 1) (get_or states i it)) → AppendsBeginning a c (items_from 1 states)
items_cut states i it within a b c before cut =
    let this = past a b c (items_from 1 (take i states)) (item_text (i + 1) (get_or states i it)) before cut in
    subst (AppendsBeginning a c) (sym (items_whole states i))
    (of_longer a c (items_from 1 (take (i + 1) states)) (items_from (1 + length (take (i + 1) states)) (drop (i + 1) states)) (subst (AppendsBeginning a c) (sym (items_more states i it within)) this))
