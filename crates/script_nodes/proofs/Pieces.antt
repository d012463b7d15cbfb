-- What is written of a field is a name with a value, a flag's name, or nothing.
use Rattle.std.proofs.Common.{◌≡◌, ◌≢◌, ◌⊎◌, inl, inr, ℕ, ◌++◌, List, [], ◌∷◌, codes, Bool, true, false, ◌&&◌, Option, Some, None, ap, refl, ◌∙◌, append_assoc, arith}
use Rattle.std.specs.Prelude.{not}
use Rattle.std.proofs.lemmas.Bool.{and_parts}
use Rattle.schema.specs.NodeData.{NodeData}
use Rattle.script_nodes.specs.declared.field_kinds.FlagField.{FlagField}
use Rattle.script_nodes.specs.declared.field_kinds.Field.{Field}
use Rattle.script_nodes.specs.declared.field_kinds.Field.TheVariants as field
use Rattle.script_nodes.specs.FieldKinds.{field_name, flag_at}
use Rattle.script_nodes.specs.NodeText.{piece, value_of}
use Rattle.script_words.specs.Parts.{flag_text, word_field}
use Rattle.script_words.specs.Reading.{IsFieldName, after}
use Rattle.script_nodes.proofs.FieldNames.{each_passes}
use Rattle.script_words.proofs.Lacking.{has, lacks_by}

-- what is left, where something of a field is
pub opened : (line : Option (List ℕ)) (text : List ℕ) → after line ≡ 32 ∷ text → line ≡ Some text
opened None text e = cc
opened (Some left) text e = cc

abbrev pub IsValued : NodeData → Field → Option (List ℕ) → Option (List ℕ) → Type 0
IsValued n which line rest = (value : List ℕ) × (value_of n which ≡ Some value) × (line ≡ Some (field_name which ++ codes "=" ++ (value ++ after rest)))

abbrev pub IsFlagged : NodeData → Field → Option (List ℕ) → Option (List ℕ) → Type 0
IsFlagged n which line rest = (flag : FlagField) × (which ≡ field.Flag flag) × (flag_at flag n ≡ true) × (line ≡ Some (field_name which ++ after rest))

with_value : (name : List ℕ) (written line rest : Option (List ℕ)) → after line ≡ word_field name written ++ after rest → word_field name written ≢ [] → (value : List ℕ) × (written ≡ Some value) × (line ≡ Some (name ++ codes "=" ++ (value ++ after rest)))
unfolding word_field
with_value name None line rest e some = absurd (some refl)
with_value name (Some value) line rest e some = (value, refl, opened line _ (e ∙ ap (λ t. 32 ∷ t) (append_assoc (name ++ codes "=") value (after rest))))

as_flag : (name : List ℕ) (is_set : Bool) (line rest : Option (List ℕ)) → after line ≡ flag_text name is_set ++ after rest → flag_text name is_set ≢ [] → (is_set ≡ true) × (line ≡ Some (name ++ after rest))
unfolding flag_text
as_flag name false line rest e some = absurd (some refl)
as_flag name true line rest e some = (refl, opened line _ e)

pub piece_cases : (n : NodeData) (which : Field) (line rest : Option (List ℕ)) → after line ≡ piece n which ++ after rest → piece n which ≢ [] → IsValued n which line rest ⊎ IsFlagged n which line rest
piece_cases n (field.Flag flag) line rest e some = let k = as_flag (field_name (field.Flag flag)) (flag_at flag n) line rest e some in inr (flag, refl, k.0, k.1)
piece_cases n which line rest e some = inl (with_value (field_name which) (value_of n which) line rest e some)

-- the names are words without an equals sign

abbrev is_field_name : List ℕ → Bool
is_field_name [] = false
is_field_name name = not (has 32 name) && not (has 61 name)

not_so : (b : Bool) → not b ≡ true → b ≡ false
not_so false t = refl
not_so true t = cc

by_test : (name : List ℕ) → is_field_name name ≡ true → IsFieldName name
by_test [] t = cc
by_test (x ∷ xs) t =
    let k = and_parts (not (has 32 (x ∷ xs))) (not (has 61 (x ∷ xs))) t in
    ((lacks_by 32 (x ∷ xs) (not_so (has 32 (x ∷ xs)) k.0), omega arith), lacks_by 61 (x ∷ xs) (not_so (has 61 (x ∷ xs)) k.1))

pub name_is_word : (which : Field) → IsFieldName (field_name which)
name_is_word which = by_test (field_name which) (each_passes (λ f. is_field_name (field_name f)) refl which)

value_begins : (name : List ℕ) (written : Option (List ℕ)) → (word_field name written ≡ []) ⊎ ((text : List ℕ) × (word_field name written ≡ 32 ∷ text))
unfolding word_field
value_begins name None = inl refl
value_begins name (Some value) = inr (name ++ codes "=" ++ value, refl)

flag_begins : (name : List ℕ) (is_set : Bool) → (flag_text name is_set ≡ []) ⊎ ((text : List ℕ) × (flag_text name is_set ≡ 32 ∷ text))
unfolding flag_text
flag_begins name false = inl refl
flag_begins name true = inr (name, refl)

-- a field's piece is nothing, or begins with a space
pub piece_begins : (n : NodeData) (which : Field) → (piece n which ≡ []) ⊎ ((text : List ℕ) × (piece n which ≡ 32 ∷ text))
piece_begins n (field.Flag flag) = flag_begins (field_name (field.Flag flag)) (flag_at flag n)
piece_begins n which = value_begins (field_name which) (value_of n which)
