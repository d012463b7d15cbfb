-- Beginnings of what is to be written.
use Rattle.std.proofs.Common.{◌≡◌, ℕ, suc, ◌-◌, ◌<◌, List, [], ◌∷◌, ◌++◌, length, take, drop, get_or, Option, Result, Ok, Err, OnErr, sym, ap, ◌∙◌, subst, append_assoc, take-append-drop, drop-cons, flat_map}
use Rattle.std.proofs.KnownBytes.{Appends-trans}
use Rattle.std.proofs.lemmas.Grind.{flat_map-append}
use Rattle.std.proofs.lemmas.List.{take_rest}
use Rattle.std.specs.Io.KnownBytes.{Appends}
use Rattle.html.specs.Written.{AppendsBeginning}

-- a beginning of a text is one of a longer text
pub of_longer : (a b : Option (List ℕ)) (text more : List ℕ) → AppendsBeginning a b text → AppendsBeginning a b (text ++ more)
of_longer a b text more h =
    record { front = h.front; missing = h.missing ++ more; whole = sym (append_assoc h.front h.missing more) ∙ ap (λ l. l ++ more) h.whole; written = h.written }

-- a text, and then others
abbrev pub joined : List ℕ → List (List ℕ) → List ℕ
joined text [] = text
joined text (next ∷ others) = joined (text ++ next) others

pub of_joined : (a b : Option (List ℕ)) (text : List ℕ) (others : List (List ℕ)) → AppendsBeginning a b text → AppendsBeginning a b (joined text others)
of_joined a b text [] h = h
of_joined a b text (next ∷ others) h = of_joined a b (text ++ next) others (of_longer a b text next h)

-- a text, and then a beginning of another
pub past : (a b c : Option (List ℕ)) (text more : List ℕ) → Appends a b text → AppendsBeginning b c more → AppendsBeginning a c (text ++ more)
past a b c text more whole h =
    record { front = text ++ h.front; missing = h.missing; whole = append_assoc text h.front h.missing ∙ ap (λ l. text ++ l) h.whole; written = Appends-trans a b c text h.front whole h.written }

-- what holds anyway holds at an error
pub at_err : {T E P : Type 0} (r : Result T E) → P → OnErr r P
at_err (Ok done) held = tt
at_err (Err fault) held = held

-- the rest of what is to be written, once its first bytes are
pub moves_front : (all done rest : List ℕ) (n : ℕ) → all ≡ done ++ rest → all ≡ (done ++ take n rest) ++ take (length rest - n) (drop n rest)
moves_front all done rest n e =
    e ∙ ap (λ l. done ++ l) (sym (take-append-drop n rest)) ∙ sym (append_assoc done (take n rest) (drop n rest)) ∙ ap (λ l. (done ++ take n rest) ++ l) (sym (take_rest rest n))

-- what is written of a list: of the items before a place, of the item there, and of those after it
split_at : (f : ℕ → List ℕ) (items : List ℕ) (i : ℕ) → i < length items → (flat_map f (take i items) ++ f (get_or items i 0)) ++ flat_map f (drop (suc i) items) ≡ flat_map f items
split_at f items i within =
    append_assoc (flat_map f (take i items)) (f (get_or items i 0)) (flat_map f (drop (suc i) items))
    ∙ sym (flat_map-append f (take i items) (get_or items i 0 ∷ drop (suc i) items))
    ∙ ap (flat_map f) (ap (λ l. take i items ++ l) (sym (drop-cons items i 0 within)) ∙ take-append-drop i items)

-- of the items before a place all is written, and of the one there a beginning
past_items : (f : ℕ → List ℕ) (a b c : Option (List ℕ)) (items : List ℕ) (i : ℕ) → i < length items → Appends a b (flat_map f (take i items)) → AppendsBeginning b c (f (get_or items i 0)) → AppendsBeginning a c (flat_map f items)
past_items f a b c items i within before cut =
    subst (AppendsBeginning a c) (split_at f items i within) (of_longer a c _ (flat_map f (drop (suc i) items)) (past a b c _ _ before cut))

-- likewise of the bytes of a text
pub past_bytes : (f : ℕ → List ℕ) (a b c : Option (List ℕ)) (bytes text : List ℕ) (i : ℕ) → bytes ≡ text → i < length bytes → Appends a b (flat_map f (take i text)) → AppendsBeginning b c (f (get_or bytes i 0)) → AppendsBeginning a c (flat_map f text)
past_bytes f a b c bytes text i same within before cut =
    subst (λ items. AppendsBeginning a c (flat_map f items)) same
    (past_items f a b c bytes i within (subst (λ items. Appends a b (flat_map f (take i items))) (sym same) before) cut)
