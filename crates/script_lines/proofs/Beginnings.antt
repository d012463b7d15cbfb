-- Writings that stop: a beginning of a text is written.
use Rattle.std.proofs.Common.{◌≡◌, ℕ, ◌+◌, ◌-◌, ◌<◌, List, [], ◌∷◌, ◌++◌, length, take, drop, flat_map, get_or, Option, Result, Ok, Err, OnErr, OnOk, refl, sym, ap, subst, ◌∙◌, append_assoc, append-nil, take-append-drop, take_all, length-drop, arith}
use Rattle.std.specs.Io.KnownBytes.{Appends}
use Rattle.std.proofs.KnownBytes.{Appends-nil, Appends-trans}
use Rattle.std.proofs.lemmas.Grind.{flat_map-append}
use Rattle.std.proofs.lemmas.List.{drop_more}
use lib.Seq.{take-add}
use Rattle.script_lines.specs.Lines.{AppendsBeginning}

pub begun_nothing : (before : Option (List ℕ)) (text : List ℕ) → AppendsBeginning before before text
begun_nothing before text = ([], text, refl, Appends-nil before)

-- what comes after it isn't written either
pub begun_of_more : (before after : Option (List ℕ)) (text more : List ℕ) → AppendsBeginning before after text → AppendsBeginning before after (text ++ more)
begun_of_more before after text more k = (k.0, k.1 ++ more, ap (λ t. t ++ more) k.2 ∙ append_assoc k.0 k.1 more, k.3)

-- what comes before it is written
pub begun_after : (before mid after : Option (List ℕ)) (done text : List ℕ) → Appends before mid done → AppendsBeginning mid after text → AppendsBeginning before after (done ++ text)
begun_after before mid after done text a k = (done ++ k.0, k.1, ap (λ t. done ++ t) k.2 ∙ sym (append_assoc done k.0 k.1), Appends-trans before mid after done k.0 a k.3)

-- the texts of the first items are written, and a beginning of the next one's
pub begun_at : {T : Type 0} (text : T → List ℕ) (items : List T) (i : ℕ) (x : T) (before mid after : Option (List ℕ)) → i < length items → x ≡ get_or items i x → Appends before mid (flat_map text (take i items))
    → AppendsBeginning mid after (text x) → AppendsBeginning before after (flat_map text items)
begun_at text items i x before mid after low is a k =
    let rest = drop (i + 1) items in
    let split : items ≡ take i items ++ (x ∷ rest) = sym (take-append-drop i items) ∙ ap (λ l. take i items ++ l) (drop_more items i x low ∙ ap (λ y. y ∷ rest) (sym is)) in
    subst (AppendsBeginning before after) (sym (ap (flat_map text) split ∙ flat_map-append text (take i items) (x ∷ rest)))
    (begun_after before mid after (flat_map text (take i items)) (text x ++ flat_map text rest) a (begun_of_more mid after (text x) (flat_map text rest) k))

-- the texts of the first items are written, and then the next one's
pub written_next : {T : Type 0} (text : T → List ℕ) (items : List T) (i : ℕ) (x : T) (before mid after : Option (List ℕ)) → i < length items → x ≡ get_or items i x → Appends before mid (flat_map text (take i items))
    → Appends mid after (text x) → Appends before after (flat_map text (take (i + 1) items))
written_next text items i x before mid after low is a b =
    let more : take (i + 1) items ≡ take i items ++ (x ∷ []) = take-add i 1 items ∙ ap (λ l. take i items ++ take 1 l) (drop_more items i x low ∙ ap (λ y. y ∷ drop (i + 1) items) (sym is)) in
    subst (Appends before after) (sym (ap (flat_map text) more ∙ flat_map-append text (take i items) (x ∷ []) ∙ ap (λ t. flat_map text (take i items) ++ t) (append-nil (text x))))
    (Appends-trans before mid after (flat_map text (take i items)) (text x) a b)

-- what is left of a text after its first bytes
pub rest_is : (bytes : List ℕ) (i : ℕ) → take (length bytes - i) (drop i bytes) ≡ drop i bytes
rest_is bytes i = take_all (length bytes - i) (drop i bytes) (omega (arith, length-drop i bytes))

-- some bytes more of it are written
pub more_written : (bytes rest : List ℕ) (before mid after : Option (List ℕ)) (i n : ℕ) → rest ≡ drop i bytes → Appends before mid (take i bytes) → Appends mid after (take n rest) → Appends before after (take (i + n) bytes)
more_written bytes rest before mid after i n is a b =
    subst (λ l. Appends before after l) (sym (take-add i n bytes)) (Appends-trans before mid after (take i bytes) (take n (drop i bytes)) a (subst (λ l. Appends mid after (take n l)) is b))

pub begun_here : (bytes : List ℕ) (before after : Option (List ℕ)) (i : ℕ) → Appends before after (take i bytes) → AppendsBeginning before after bytes
begun_here bytes before after i a = (take i bytes, drop i bytes, sym (take-append-drop i bytes), a)

pub begun_past : (bytes rest : List ℕ) (before mid after : Option (List ℕ)) (i n : ℕ) → rest ≡ drop i bytes → Appends before mid (take i bytes) → Appends mid after (take n rest) → AppendsBeginning before after bytes
begun_past bytes rest before mid after i n is a b = begun_here bytes before after (i + n) (more_written bytes rest before mid after i n is a b)

-- the texts of the first items are written
pub begun_front : {T : Type 0} (text : T → List ℕ) (items : List T) (i : ℕ) (before after : Option (List ℕ)) → Appends before after (flat_map text (take i items)) → AppendsBeginning before after (flat_map text items)
begun_front text items i before after a =
    (flat_map text (take i items), flat_map text (drop i items), sym (ap (flat_map text) (take-append-drop i items)) ∙ flat_map-append text (take i items) (drop i items), a)

-- ---- what is said of a result

pub on_err : {T E : Type 0} (r : Result T E) (P : Type 0) → P → OnErr r P
on_err (Ok x) P p = tt
on_err (Err e) P p = p

pub on_err_too : {T E : Type 0} (r : Result T E) (P Q : Type 0) → (P → Q) → OnErr r P → OnErr r Q
on_err_too (Ok x) P Q f p = tt
on_err_too (Err e) P Q f p = f p

pub on_ok_too : {T E : Type 0} (r : Result T E) (P Q : Type 0) → (P → Q) → OnOk r P → OnOk r Q
on_ok_too (Ok x) P Q f p = f p
on_ok_too (Err e) P Q f p = tt
