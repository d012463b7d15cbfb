-- The line that begins an update, as it is written, means that update.
use Rattle.std.proofs.Common.{◌≡◌, ℕ, List, [], ◌∷◌, ◌++◌, codes, Option, Some, None, option_map, append_assoc, ap, refl, sym, ◌∙◌}
use Rattle.std.specs.Fmt.{decimal}
use Rattle.schema.specs.UpdateData.{InfoData, UpdateData}
use Rattle.schema.specs.declared.NodeId.{NodeId}
use Rattle.schema.specs.declared.TreeId.{TreeId}
use Rattle.script_lines.specs.HeadMeaning.{field_means, finished, once_next, takes_text, update_means, value_at}
use Rattle.script_lines.specs.LineReading.{HeadData, IsHead, no_head}
use Rattle.script_lines.specs.Lines.{head_args}
use Rattle.script_lines.proofs.HeadFields.{AreFree, Focus, HeadField, IsFree, IsHeadField, Root, Toolkit, Version, args_are_fields, fields_are_free, fields_are_head, head_fields, head_name, head_name_is_field_name, head_value, info_head, rest_text, with_head_field, with_head_fields}
use Rattle.script_lines.proofs.HeadMeanings.{valued_field}
use Rattle.script_words.proofs.FieldReads.{goes_on}
use Rattle.script_lines.proofs.WrittenWords.{id_comes, tree_comes}
use Rattle.script_words.proofs.WrittenValues.{text_comes}
use Rattle.script_words.specs.Fields.{each_word, fields_of, one_word}
use Rattle.script_words.specs.Meaning.{next_as, onward}
use Rattle.script_words.specs.Quoted.{quoted}
use Rattle.script_words.specs.Reading.{after}
use Rattle.script_words.specs.Texts.{next_text}
use Rattle.script_words.specs.WordValues.{id_of}

-- ---- a field, and all of them

-- a field with this value, and what is left behind it
abbrev put : {T : Type 0} → (T → HeadField) → HeadData → T × Option (List ℕ) → Option (HeadData × Option (List ℕ))
put field head read = Some (with_head_field (field read.0) head, read.1)

value_written : (field : HeadField) (rest : Option (List ℕ)) (head : HeadData) → IsHeadField field → IsFree field head → value_at (head_name field) (Some (head_value field ++ after rest)) head ≡ Some (with_head_field field head, rest)
value_written (Focus id) rest head h free =
    ap (λ (o : Option NodeId). onward (once_next o (next_as id_of (Some (decimal id.0 ++ after rest)))) (put Focus head)) free
    ∙ ap (λ (o : Option (NodeId × Option (List ℕ))). onward o (put Focus head)) (id_comes id rest h)
value_written (Root id) rest head h free =
    ap (λ (o : Option NodeId). onward (once_next o (next_as id_of (Some (decimal id.0 ++ after rest)))) (put Root head)) free
    ∙ ap (λ (o : Option (NodeId × Option (List ℕ))). onward o (put Root head)) (id_comes id rest h)
value_written (Toolkit text) rest head h free =
    ap (λ (o : Option (List ℕ)). onward (once_next o (next_text (Some (quoted text ++ after rest)))) (put Toolkit head)) free
    ∙ ap (λ (o : Option (List ℕ × Option (List ℕ))). onward o (put Toolkit head)) (text_comes text rest h)
value_written (Version text) rest head h free =
    ap (λ (o : Option (List ℕ)). onward (once_next o (next_text (Some (quoted text ++ after rest)))) (put Version head)) free
    ∙ ap (λ (o : Option (List ℕ × Option (List ℕ))). onward o (put Version head)) (text_comes text rest h)

abbrev with_words : HeadData × Option (List ℕ) → HeadData × List (List ℕ)
with_words read = (read.0, fields_of takes_text read.1)

field_written : (field : HeadField) (rest : Option (List ℕ)) (head : HeadData) → IsHeadField field → IsFree field head
    → one_word field_means (fields_of takes_text (Some (head_name field ++ codes "=" ++ head_value field ++ after rest))) head ≡ Some (with_head_field field head, fields_of takes_text rest)
field_written field rest head h free =
    let name = head_name_is_field_name field in
    valued_field (head_name field ++ codes "=" ++ head_value field ++ after rest) (head_name field) (head_value field ++ after rest) head
    (append_assoc (head_name field ++ codes "=") (head_value field) (after rest) ∙ append_assoc (head_name field) (codes "=") (head_value field ++ after rest)) name.1 name.0.0
    ∙ ap (option_map {U = HeadData × List (List ℕ)} with_words) (value_written field rest head h free)

fields_written : (fields : List HeadField) (head : HeadData) → AreFree fields head → each_word field_means (fields_of takes_text (rest_text fields)) head ≡ Some (with_head_fields fields head)
unfolding AreFree rest_text with_head_fields each_word
fields_written [] head free = refl
fields_written (field ∷ others) head free =
    let words = fields_of takes_text (Some (head_name field ++ codes "=" ++ head_value field ++ after (rest_text others))) in
    sym (goes_on field_means words head (with_head_field field head, fields_of takes_text (rest_text others)) (each_word field_means words head) (field_written field (rest_text others) head free.0 free.1) refl)
    ∙ fields_written others (with_head_field field head) free.2

-- ---- the line

finished_is : (tree : TreeId) (focus : NodeId) (info : Option InfoData) → finished tree (info_head focus info) ≡ Some (record { name = tree; focus = focus; info = info; nodes = [] })
finished_is tree focus None = refl
finished_is tree focus (Some info) = refl

abbrev from_tree : TreeId × Option (List ℕ) → Option UpdateData
from_tree tree = onward (each_word field_means (fields_of takes_text tree.1) no_head) (finished tree.0)

pub head_written : (u : UpdateData) → IsHead u → u.nodes ≡ [] → update_means (Some (head_args u)) ≡ Some u
head_written u h none =
    ap (λ text. update_means (Some text)) (args_are_fields u)
    ∙ ap (λ o. onward o from_tree) (tree_comes u.name (rest_text (head_fields u)) h.0)
    ∙ ap (λ o. onward o (finished u.name)) (fields_written (head_fields u) no_head (fields_are_free u h))
    ∙ ap (finished u.name) (fields_are_head u)
    ∙ finished_is u.name u.focus u.info
    ∙ ap (λ nodes. Some (record u { nodes = nodes })) (sym none)
