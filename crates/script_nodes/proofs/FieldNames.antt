-- A field is found by its name, and no two fields have the same name. What holds of all in the list of fields holds of each.
use Rattle.std.proofs.Common.{◌≡◌, ◌≢◌, ⊎_elim, ℕ, ◌<◌, List, [], ◌∷◌, All, map, length, drop, get_or, slice_index_or, bytes_eq, Bool, true, false, Option, Some, None, MatchOption, Bor, if◌then◌else◌, refl, ap, sym, subst, ◌∙◌}
use Rattle.std.specs.List.{list_all}
use Rattle.std.proofs.lemmas.Bool.{cases_Bool, cond-true, cond-false}
use Rattle.std.proofs.lemmas.List.{get_or-map}
use Rattle.std.proofs.lemmas.List.Elements.{All-head, All-tail}
use Rattle.std.proofs.lemmas.List.Sums.{AllPass-from_list_all}
use Rattle.std.proofs.lemmas.Option.{none-some, same_Some}
use Rattle.std.proofs.lemmas.Slice.Eq.{bytes_eq-Decides}
use Rattle.script_nodes.specs.declared.field_kinds.Field.{Field}
use Rattle.script_nodes.specs.FieldKinds.{all_fields, field_name}
use Rattle.script_nodes.specs.FieldMeaning.{field_called}
use Rattle.script_words.specs.NamedIn.{first_named, named_in}
use Rattle.script_nodes.proofs.FieldSteps.{named_back}
use Rattle.script_words.proofs.NamedTables.{in_table}

-- ---- what holds of all fields in the list holds of each

of_named : (P : Field → Type 0) (name : List ℕ) (fields : List Field) (which : Field) → All P fields → first_named field_name name fields ≡ Some which → P which
unfolding first_named
of_named P name [] which all e = absurd (none-some which e)
of_named P name (f ∷ fields) which all e = ⊎_elim
    (λ t. subst P (same_Some f which (sym (cond-true _ _ _ t) ∙ e)) (All-head P f fields all))
    (λ no. of_named P name fields which (All-tail P f fields all) (sym (cond-false _ _ _ no) ∙ e))
    (cases_Bool (bytes_eq (field_name f) name))

pub each : (P : Field → Type 0) → All P all_fields → (which : Field) → P which
each P all which = of_named P (field_name which) all_fields which all (named_back which)

pub each_passes : (test : Field → Bool) → list_all test all_fields ≡ true → (which : Field) → test which ≡ true
each_passes test all = each (λ f. test f ≡ true) (AllPass-from_list_all test all_fields all)

-- ---- a field is found by its name in a table

-- each stands beside its name
abbrev pub AreNamed : List (Bor (List ℕ) × Field) → Type 0
AreNamed table = map (λ e. e.0.now) table ≡ map (λ e. field_name e.1) table

found_by : (name : List ℕ) (other : Field) (rest : Option Field) (which : Field) (same : Bool) → bytes_eq (field_name other) name ≡ same → (if same then Some other else rest) ≡ Some which → (rest ≡ Some which → name ≡ field_name which) → name ≡ field_name which
found_by name other rest which true is e later = sym ((bytes_eq-Decides (field_name other) name).0 is) ∙ ap field_name (same_Some other which e)
found_by name other rest which false is e later = later e

-- what is found is called so
found : (name : List ℕ) (fields : List Field) (which : Field) → first_named field_name name fields ≡ Some which → name ≡ field_name which
unfolding first_named
found name [] which e = cc
found name (other ∷ others) which e = found_by name other (first_named field_name name others) which (bytes_eq (field_name other) name) refl e (found name others which)

pub found_or_nowhere : (name : List ℕ) (table : List (Bor (List ℕ) × Field)) → AreNamed table → map (λ e. e.1) table ≡ all_fields → (result : Option Field) → result ≡ named_in name table →
    MatchOption result ((which : Field) → name ≢ field_name which) (λ which. name ≡ field_name which)
found_or_nowhere name table h all None e = λ which same. let no : None ≡ Some which = e ∙ in_table field_name table h name ∙ ap (first_named field_name name) all ∙ ap (λ n. first_named field_name n all_fields) same ∙ named_back which in cc
found_or_nowhere name table h all (Some which) e = found name all_fields which (sym (e ∙ in_table field_name table h name ∙ ap (first_named field_name name) all))

-- ---- the field that a name means

pub called_back : (which : Field) → field_called (field_name which) ≡ Some which
unfolding field_called
called_back which = named_back which

pub called_so : (name : List ℕ) (which : Field) → field_called name ≡ Some which → name ≡ field_name which
unfolding field_called
called_so name which e = found name all_fields which e

-- each field of a table has the name that it stands beside
pub has_its_name : (table : List (Bor (List ℕ) × Field)) → AreNamed table → (i : ℕ) (d : Bor (List ℕ) × Field) → i < length table → (slice_index_or table i d).0.now ≡ field_name (slice_index_or table i d).1
has_its_name table names i d low = sym (get_or-map (λ e. e.0.now) table i d [] low) ∙ ap (λ l. get_or l i []) names ∙ get_or-map (λ e. field_name e.1) table i d [] low
