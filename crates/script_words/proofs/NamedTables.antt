-- Values that are found by their names in a table.
use Rattle.std.proofs.Common.{◌≡◌, ℕ, List, [], ◌∷◌, map, Option, Some, None, Bor, if◌then◌else◌, ⊎_elim, refl, subst, ap, sym, ◌∙◌}
use Rattle.std.specs.Str.{bytes_eq}
use Rattle.std.proofs.lemmas.Bool.{cases_Bool, cond-true, cond-false}
use Rattle.std.proofs.lemmas.Slice.Eq.{bytes_eq-Decides}
use Rattle.model.specs.declared.queries.Move.{Move}
use Rattle.model.specs.declared.queries.Move.TheVariants as move
use Rattle.script_words.specs.NamedIn.{IsNamed, ReadsNamed, first_named, named_in}
use Rattle.script_words.specs.NameLists.{all_moves}
use Rattle.script_words.specs.Names.{move_name}

-- in a table of values beside their names a word is beside the first of the values with that name
pub in_table : {T : Type 0} (name : T → List ℕ) (table : List (Bor (List ℕ) × T)) → map (λ e. e.0.now) table ≡ map (λ e. name e.1) table
    → (word : List ℕ) → named_in word table ≡ first_named name word (map (λ e. e.1) table)
unfolding named_in first_named
in_table name [] names word = refl
in_table name (entry ∷ others) names word =
    let first : entry.0.now ≡ name entry.1 = cc in
    let rest : map (λ e. e.0.now) others ≡ map (λ e. name e.1) others = cc in
    rw first (ap (λ t. if bytes_eq (name entry.1) word then Some entry.1 else t) (in_table name others rest word))

-- where each value is the first with its name, it is read from that name
pub reads_in_table : {T : Type 0} (name : T → List ℕ) (table : List (Bor (List ℕ) × T)) (values : List T) → map (λ e. e.0.now) table ≡ map (λ e. name e.1) table
    → map (λ e. e.1) table ≡ values → ((value : T) → first_named name (name value) values ≡ Some value) → (word : List ℕ) → ReadsNamed name word (named_in word table)
reads_in_table name table values names are first word value e =
    ap (λ w. named_in w table) e ∙ in_table name table names (name value) ∙ ap (first_named name (name value)) are ∙ first value

-- what is read from a table of values beside their names has the word as its name
pub named_in_table : {T : Type 0} (name : T → List ℕ) (table : List (Bor (List ℕ) × T)) → map (λ e. e.0.now) table ≡ map (λ e. name e.1) table
    → (word : List ℕ) → IsNamed name word (named_in word table)
unfolding named_in
named_in_table name [] names word = tt
named_in_table name (entry ∷ others) names word =
    let first : entry.0.now ≡ name entry.1 = cc in
    let rest : map (λ e. e.0.now) others ≡ map (λ e. name e.1) others = cc in
    ⊎_elim
    (λ t. subst (IsNamed name word) (sym (cond-true _ _ _ t)) (sym ((bytes_eq-Decides entry.0.now word).0 t) ∙ first))
    (λ f. subst (IsNamed name word) (sym (cond-false _ _ _ f)) (named_in_table name others rest word))
    (cases_Bool (bytes_eq entry.0.now word))

-- each move is the first with its name
pub first_move : (value : Move) → first_named move_name (move_name value) all_moves ≡ Some value
unfolding first_named
first_move move.ForwardToCharacterStart = refl
first_move value = refl
