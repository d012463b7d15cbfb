-- The fields of the line that begins an update.
use Rattle.std.proofs.Common.{◌≡◌, List, ℕ, [], ◌∷◌, ◌++◌, codes, arith, Option, Some, None, MatchOption, option_map, ap, sym, refl, ◌∙◌, append-nil, append_assoc}
use Rattle.std.specs.Bool.{⊤}
use Rattle.std.specs.Str.{IsUtf8}
use Rattle.std.specs.Fmt.{decimal}
use Rattle.schema.specs.UpdateData.{InfoData, UpdateData}
use Rattle.schema.specs.declared.NodeId.{NodeId}
use Rattle.script_lines.specs.LineReading.{IsInfo, IsHead, HeadData, no_head}
use Rattle.script_lines.specs.Lines.{head_args, info_or_nothing}
use Rattle.script_words.specs.Parts.{word_field, tree_text}
use Rattle.script_words.specs.Quoted.{quoted}
use Rattle.script_words.specs.Reading.{IsFieldName, IsId, after}
use Rattle.script_words.proofs.Lacking.{lacks_by}

-- ---- the fields as they are written, one after another

pub data HeadField : Type 0 where
  Focus : (id : NodeId) → HeadField
  Root : (id : NodeId) → HeadField
  Toolkit : (text : List ℕ) → HeadField
  Version : (text : List ℕ) → HeadField

abbrev pub head_name : HeadField → List ℕ
head_name (Focus id) = codes "focus"
head_name (Root id) = codes "root"
head_name (Toolkit text) = codes "toolkit"
head_name (Version text) = codes "version"

abbrev pub head_value : HeadField → List ℕ
head_value (Focus id) = decimal id.0
head_value (Root id) = decimal id.0
head_value (Toolkit text) = quoted text
head_value (Version text) = quoted text

abbrev pub IsHeadField : HeadField → Type 0
IsHeadField (Focus id) = IsId id
IsHeadField (Root id) = IsId id
IsHeadField (Toolkit text) = IsUtf8 text
IsHeadField (Version text) = IsUtf8 text

-- the rest of the line if these fields come next
unfoldable pub rest_text : List HeadField → Option (List ℕ)
rest_text [] = None
rest_text (field ∷ others) = Some (head_name field ++ codes "=" ++ head_value field ++ after (rest_text others))

abbrev pub toolkit_fields : Option (List ℕ) → List HeadField
toolkit_fields None = []
toolkit_fields (Some text) = Toolkit text ∷ []

abbrev pub version_fields : Option (List ℕ) → List HeadField
version_fields None = []
version_fields (Some text) = Version text ∷ []

abbrev pub info_fields : Option InfoData → List HeadField
info_fields None = []
info_fields (Some info) = Root info.root ∷ (toolkit_fields info.toolkit_name ++ version_fields info.toolkit_version)

abbrev pub head_fields : UpdateData → List HeadField
head_fields u = Focus u.focus ∷ info_fields u.info

-- ---- what is read of them

abbrev pub with_head_field : HeadField → HeadData → HeadData
with_head_field (Focus id) head = record head { focus = Some id }
with_head_field (Root id) head = record head { root = Some id }
with_head_field (Toolkit text) head = record head { toolkit = Some text }
with_head_field (Version text) head = record head { version = Some text }

-- a field that wasn't read yet
abbrev pub IsFree : HeadField → HeadData → Type 0
IsFree (Focus id) head = head.focus ≡ None
IsFree (Root id) head = head.root ≡ None
IsFree (Toolkit text) head = head.toolkit ≡ None
IsFree (Version text) head = head.version ≡ None

unfoldable pub with_head_fields : List HeadField → HeadData → HeadData
with_head_fields [] head = head
with_head_fields (field ∷ others) head = with_head_fields others (with_head_field field head)

-- fields that can be read one after another
unfoldable pub AreFree : List HeadField → HeadData → Type 0
AreFree [] head = ⊤
AreFree (field ∷ others) head = IsHeadField field × IsFree field head × AreFree others (with_head_field field head)

-- all fields of an update's head
abbrev pub info_head : NodeId → Option InfoData → HeadData
info_head focus None = record { focus = Some focus; root = None; toolkit = None; version = None }
info_head focus (Some info) =
    record { focus = Some focus; root = Some info.root; toolkit = info.toolkit_name; version = info.toolkit_version }

abbrev pub head_of : UpdateData → HeadData
head_of u = info_head u.focus u.info

-- ---- their names, and the line

pub head_name_is_field_name : (field : HeadField) → IsFieldName (head_name field)
head_name_is_field_name (Focus id) = ((lacks_by 32 (codes "focus") refl, omega arith), lacks_by 61 (codes "focus") refl)
head_name_is_field_name (Root id) = ((lacks_by 32 (codes "root") refl, omega arith), lacks_by 61 (codes "root") refl)
head_name_is_field_name (Toolkit text) = ((lacks_by 32 (codes "toolkit") refl, omega arith), lacks_by 61 (codes "toolkit") refl)
head_name_is_field_name (Version text) = ((lacks_by 32 (codes "version") refl, omega arith), lacks_by 61 (codes "version") refl)

-- what is written of the toolkit
texts_are_fields : (before : List ℕ) (toolkit version : Option (List ℕ)) →
    before ++ word_field (codes "toolkit") (option_map quoted toolkit) ++ word_field (codes "version") (option_map quoted version) ≡ before ++ after (rest_text (toolkit_fields toolkit ++ version_fields version))
unfolding word_field rest_text
texts_are_fields before None None = append-nil (before ++ [])
texts_are_fields before (Some toolkit) None = append_assoc before (word_field (codes "toolkit") (Some (quoted toolkit))) []
texts_are_fields before None (Some version) = let v = word_field (codes "version") (Some (quoted version)) in append_assoc before [] v ∙ ap (λ r. before ++ r) (sym (append-nil v))
texts_are_fields before (Some toolkit) (Some version) = let t = word_field (codes "toolkit") (Some (quoted toolkit)) in let v = word_field (codes "version") (Some (quoted version)) in
    append_assoc before t v ∙ ap (λ r. before ++ (t ++ r)) (sym (append-nil v))

-- and of the tree as a whole
info_is_fields : (info : Option InfoData) → info_or_nothing info ≡ after (rest_text (info_fields info))
unfolding rest_text
info_is_fields None = refl
info_is_fields (Some info) = texts_are_fields (codes " root=" ++ decimal info.root.0) info.toolkit_name info.toolkit_version

pub args_are_fields : (u : UpdateData) → head_args u ≡ tree_text u.name ++ after (rest_text (head_fields u))
unfolding rest_text
args_are_fields u = append_assoc (tree_text u.name ++ codes " focus=") (decimal u.focus.0) (info_or_nothing u.info)
    ∙ append_assoc (tree_text u.name) (codes " focus=") (decimal u.focus.0 ++ info_or_nothing u.info)
    ∙ ap (λ i. tree_text u.name ++ (codes " focus=" ++ (decimal u.focus.0 ++ i))) (info_is_fields u.info)

-- ---- each field stands once

texts_free : (focus root : NodeId) (toolkit version : Option (List ℕ)) → MatchOption toolkit ⊤ IsUtf8 → MatchOption version ⊤ IsUtf8 →
    AreFree (toolkit_fields toolkit ++ version_fields version) (record { focus = Some focus; root = Some root; toolkit = None; version = None })
unfolding AreFree
texts_free focus root None None a b = tt
texts_free focus root (Some toolkit) None a b = (a, refl, tt)
texts_free focus root None (Some version) a b = (b, refl, tt)
texts_free focus root (Some toolkit) (Some version) a b = (a, refl, (b, refl, tt))

free_at : (focus : NodeId) (info : Option InfoData) → IsId focus → MatchOption info ⊤ IsInfo → AreFree (Focus focus ∷ info_fields info) no_head
unfolding AreFree
free_at focus None h i = (h, refl, tt)
free_at focus (Some info) h i = (h, refl, (i.0, refl, texts_free focus info.root info.toolkit_name info.toolkit_version i.1 i.2))

pub fields_are_free : (u : UpdateData) → IsHead u → AreFree (head_fields u) no_head
fields_are_free u h = free_at u.focus u.info h.1 h.2

texts_head : (focus root : NodeId) (toolkit version : Option (List ℕ)) →
    with_head_fields (toolkit_fields toolkit ++ version_fields version) (record { focus = Some focus; root = Some root; toolkit = None; version = None }) ≡ record { focus = Some focus; root = Some root; toolkit = toolkit; version = version }
unfolding with_head_fields
texts_head focus root None None = refl
texts_head focus root (Some toolkit) None = refl
texts_head focus root None (Some version) = refl
texts_head focus root (Some toolkit) (Some version) = refl

head_at : (focus : NodeId) (info : Option InfoData) → with_head_fields (Focus focus ∷ info_fields info) no_head ≡ info_head focus info
unfolding with_head_fields
head_at focus None = refl
head_at focus (Some info) = texts_head focus info.root info.toolkit_name info.toolkit_version

pub fields_are_head : (u : UpdateData) → with_head_fields (head_fields u) no_head ≡ head_of u
fields_are_head u = head_at u.focus u.info
