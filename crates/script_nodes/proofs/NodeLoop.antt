-- A node's fields as they are written, read one after another.
use Rattle.std.proofs.Common.{◌≡◌, ◌≢◌, ⊎_elim, ℕ, ◌++◌, List, [], ◌∷◌, flat_map, Option, Some, None, refl, ap, sym, subst, ◌∙◌, append_assoc, codes}
use Rattle.std.specs.Fmt.{decimal}
use Rattle.schema.specs.NodeData.{NodeData}
use Rattle.schema.specs.RoleNames.{role_text}
use Rattle.schema.specs.declared.NodeId.{NodeId}
use Rattle.script_nodes.specs.declared.field_kinds.Field.{Field}
use Rattle.script_nodes.specs.NodeReading.{IsNode, node_args, with_field, without, without_all, IsWithout}
use Rattle.script_nodes.specs.FieldKinds.{all_fields}
use Rattle.script_nodes.specs.NodeText.{fields_text, piece}
use Rattle.script_words.specs.Reading.{Begins, after}
use Rattle.script_nodes.proofs.FieldSteps.{taken, given_back, nothing_to_take, kept, kept_away}
use Rattle.script_nodes.proofs.FieldTails.{IsTail}
use Rattle.script_nodes.proofs.FieldsLeftOut.{nothing_written}
use Rattle.script_nodes.proofs.Pieces.{piece_begins}

-- a node is read up to these fields, which are what is left of the line
abbrev pub IsReadUpTo : List Field → NodeData → NodeData → Option (List ℕ) → Type 0
IsReadUpTo fields n read line = IsTail fields × (read ≡ without_all fields n) × (after line ≡ flat_map (piece n) fields)

-- this field comes next, which isn't read yet, and after it the others
abbrev pub NextOf : Field → List Field → NodeData → NodeData → Option (List ℕ) → Type 0
NextOf which others n read line =
    (rest : Option (List ℕ)) × (after line ≡ piece n which ++ after rest) × (piece n which ≢ []) × IsWithout which read × IsReadUpTo others n (with_field which n read) rest

-- what is written of fields is nothing, or begins with a space
pub comes : (n : NodeData) (fields : List Field) → (rest : Option (List ℕ)) × (flat_map (piece n) fields ≡ after rest)
comes n [] = (None, refl)
comes n (which ∷ others) = ⊎_elim
    (λ e. let k = comes n others in (k.0, ap (λ t. t ++ flat_map (piece n) others) e ∙ k.1))
    (λ some. (Some (some.0 ++ flat_map (piece n) others), ap (λ t. t ++ flat_map (piece n) others) some.1))
    (piece_begins n which)

-- a field of which nothing is written is as good as read
pub skipped : (n read : NodeData) (line : Option (List ℕ)) (which : Field) (others : List Field) → IsNode n → piece n which ≡ [] → IsReadUpTo (which ∷ others) n read line → IsReadUpTo others n read line
unfolding without_all
skipped n read line which others h e up =
    let away : IsWithout which (without_all others n) = subst (λ fields. IsWithout which (without_all fields n)) (sym up.0.0) (kept_away which n (nothing_written n which h e)) in
    (up.0.1, up.1 ∙ nothing_to_take which (without_all others n) away, up.2 ∙ ap (λ t. t ++ flat_map (piece n) others) e)

pub read_next : (n read : NodeData) (line : Option (List ℕ)) (which : Field) (others : List Field) (text : List ℕ) → piece n which ≡ 32 ∷ text → IsReadUpTo (which ∷ others) n read line → NextOf which others n read line
unfolding without_all
read_next n read line which others text some up =
    let k = comes n others in
    let given : with_field which n read ≡ without_all others n =
    ap (λ m. with_field which n m) up.1
    ∙ sym (subst (λ fields. with_field which (without_all fields n) (without which (without_all others n)) ≡ with_field which n (without which (without_all others n))) (sym up.0.0) (kept which n (without which (without_all others n))))
    ∙ given_back which (without_all others n) in (
      k.0,
      up.2 ∙ ap (λ t. piece n which ++ t) k.1,
      (λ none. let no : [] ≡ 32 ∷ text = sym none ∙ some in cc),
      subst (λ m. IsWithout which m) (sym up.1) (taken which (without_all others n)),
      (up.0.1, given, sym k.1),
    )

pub something : (line : Option (List ℕ)) → after line ≡ [] → line ≡ None
something None e = refl
something (Some text) e = cc

-- ---- what the line begins with

pub fields_left : NodeData → Option (List ℕ)
fields_left n = (comes n all_fields).0

pub all_left : (n : NodeData) → after (fields_left n) ≡ flat_map (piece n) all_fields
unfolding fields_left comes
all_left n = sym (comes n all_fields).1

pub head_begins : (id : NodeId) (n : NodeData) (line : Option (List ℕ)) → line ≡ Some (node_args id n) → Begins line (decimal id.0) (Some (role_text n.role ++ after (fields_left n)))
unfolding fields_text
head_begins id n line e = e ∙ ap Some
    (ap (λ t. decimal id.0 ++ codes " " ++ role_text n.role ++ t) (sym (all_left n))
    ∙ append_assoc (decimal id.0 ++ codes " ") (role_text n.role) (after (fields_left n))
    ∙ append_assoc (decimal id.0) (codes " ") (role_text n.role ++ after (fields_left n))
    )
