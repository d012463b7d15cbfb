-- A name is known by a table exactly if it is one of its texts.
use Rattle.std.proofs.Common.{◌≡◌, ◌-◌, ◌↔◌, ℕ, List, [], ◌∷◌, map, take, drop, length, length-drop, Bool, true, false, IsTrue, is_some, ◌||◌, Option, Some, None, Bor, arith, refl, sym, ap, subst, ◌∙◌}
use Rattle.std.proofs.lemmas.List.{take_all}
use Rattle.std.specs.List.{list_any}
use Rattle.std.specs.Str.{IsUtf8, bytes_eq}
use Rattle.line_text.specs.Starts.{IsFirst, IsUnknownAt, is_among, name_at}
use Rattle.line_faults.specs.Known.{field_names, is_field}
use Rattle.line_faults.specs.declared.reasons.FieldSet.{FieldSet}

among_texts : (names : List (Bor (List ℕ))) (name : List ℕ) → is_among names name ≡ list_any (λ known. bytes_eq known name) (map (λ text. text.now) names)
among_texts [] name = refl
among_texts (first ∷ names) name = ap (λ others. bytes_eq first.now name || others) (among_texts names name)

pub is_field_among : (set : FieldSet) (names : List (Bor (List ℕ))) → map (λ text. text.now) names ≡ field_names set → (name : List ℕ) → is_among names name ≡ is_field set name
is_field_among set names e name = among_texts names name ∙ ap (λ texts. list_any (λ known. bytes_eq known name) texts) e

same_unknown : (one other : List ℕ → Bool) → ((name : List ℕ) → one name ≡ other name) → (text : List ℕ) (k : ℕ) → IsUnknownAt one text k → IsUnknownAt other text k
same_unknown one other e text k u = record {
  within = u.within;
  begins = u.begins;
  unknown = (u.unknown.0, sym (e (name_at (drop k text))) ∙ u.unknown.1);
}

-- the first name that is unknown to one test is that which is unknown to another that says the same
pub same_first : (one other : List ℕ → Bool) → ((name : List ℕ) → one name ≡ other name) → (text : List ℕ) (r : Option ℕ) → IsFirst (IsUnknownAt one text) r → IsFirst (IsUnknownAt other text) r
same_first one other e text None h = λ k u. h k (same_unknown other one (λ name. sym (e name)) text k u)
same_first one other e text (Some i) h = (same_unknown one other e text i h.0, λ k lt u. h.1 k lt (same_unknown other one (λ name. sym (e name)) text k u))

-- the rest of a line from some place on, as the code has it
pub rest_from : (line : List ℕ) (at : ℕ) → take (length line - at) (drop at line) ≡ drop at line
rest_from line at = take_all (length line - at) (drop at line) (omega (arith, length-drop at line))

-- there is a value exactly if one has the property by which a value is given
pub some_exactly : {T : Type 0} (r : Option T) (P : T → Type 0) (b : Bool) → b ≡ is_some r → ((x : T) → (r ≡ Some x) ↔ P x) → IsTrue b ↔ ((x : T) × P x)
some_exactly None P b e exact = ((λ t. absurd (let no : false ≡ true = sym e ∙ t in cc)), (λ h. absurd (let no = (exact h.0).1 h.1 in cc)))
some_exactly (Some y) P b e exact = ((λ t. (y, (exact y).0 refl)), (λ h. e))

-- the same of a word that is a text, and of what its text says
pub text_known : {T : Type 0} (word text : List ℕ) (r : Option T) (P : T → List ℕ → Type 0) (b : Bool) → IsUtf8 word → text ≡ word → b ≡ is_some r → ((x : T) → (r ≡ Some x) ↔ P x text) → IsTrue b ↔ (IsUtf8 word × ((x : T) × P x word))
text_known {T} word text r P b utf8 same e exact =
    let of_word : (x : T) → (r ≡ Some x) ↔ P x word = λ x. let Q : List ℕ → Type 0 = λ y. (r ≡ Some x) ↔ P x y in subst Q same (exact x) in
    let found = some_exactly r (λ x. P x word) b e of_word in
    ((λ t. (utf8, found.0 t)), (λ h. found.1 h.1))
