-- The fields from each one on, in the order in which they are written.
use Rattle.std.proofs.Common.{◌≡◌, ℕ, List, [], ◌∷◌, bytes_eq, Bool, true, Option, Some, None, ◌&&◌, not, if◌then◌else◌, refl, sym, ◌∙◌}
use Rattle.std.specs.Bool.{⊤}
use Rattle.std.specs.List.{list_all}
use Rattle.std.proofs.lemmas.Bool.{and_parts, not-true, cond-true, cond-false}
use Rattle.std.proofs.lemmas.Slice.Eq.{bytes_eq-Decides}
use Rattle.script_nodes.specs.declared.field_kinds.Field.{Field}
use Rattle.script_nodes.specs.FieldKinds.{all_fields, field_name}

-- those of these fields that come after the one with this name
unfoldable pub after_name : List ℕ → List Field → List Field
after_name name [] = []
after_name name (which ∷ others) = if bytes_eq (field_name which) name then others else after_name name others

-- those that come after a field
unfoldable pub following : Field → List Field
following which = after_name (field_name which) all_fields

-- a list of fields after each of which these come
abbrev pub IsTailBy : (Field → List Field) → List Field → Type 0
IsTailBy after [] = ⊤
IsTailBy after (which ∷ others) = (others ≡ after which) × IsTailBy after others

-- a list of fields that are the last ones
abbrev pub IsTail : List Field → Type 0
IsTail = IsTailBy following

-- the last ones of these fields
abbrev IsTailOf : List Field → List Field → Type 0
IsTailOf fields = IsTailBy (λ which. after_name (field_name which) fields)

-- whether no two fields have the same name
abbrev are_apart : List Field → Bool
are_apart [] = true
are_apart (which ∷ others) = list_all (λ other. not (bytes_eq (field_name which) (field_name other))) others && are_apart others

-- the last ones are so too of a list that begins with one more, of another name
with_one_before : (first : Field) (fields last : List Field) → list_all (λ other. not (bytes_eq (field_name first) (field_name other))) last ≡ true
    → IsTailOf fields last → IsTailOf (first ∷ fields) last
unfolding after_name
with_one_before first fields [] apart tails = tt
with_one_before first fields (which ∷ others) apart tails =
    let both = and_parts _ _ apart in
    (tails.0 ∙ sym (cond-false _ _ _ (not-true _ both.0)), with_one_before first fields others both.1 tails.1)

tails_of : (fields : List Field) → are_apart fields ≡ true → IsTailOf fields fields
unfolding after_name
tails_of [] apart = tt
tails_of (which ∷ others) apart =
    let both = and_parts _ _ apart in
    (sym (cond-true _ _ _ ((bytes_eq-Decides (field_name which) (field_name which)).1 refl)), with_one_before which others others both.0 (tails_of others both.1))

pub all_are_tail : IsTail all_fields
unfolding following
all_are_tail = tails_of all_fields refl
