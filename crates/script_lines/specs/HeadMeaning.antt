-- What the line that begins an update means: a tree, and its fields in any order, none twice.
use Rattle.std.specs.Prelude.{ℕ, ◌≡◌, ◌||◌, Bool, List, [], codes, Option, Some, None, Result, is_some, if◌then◌else◌}
use Rattle.std.specs.Str.{bytes_eq}
use Rattle.schema.specs.UpdateData.{InfoData, UpdateData}
use Rattle.schema.specs.declared.NodeId.{NodeId}
use Rattle.schema.specs.declared.TreeId.{TreeId}
use Rattle.script_lines.specs.LineReading.{BeginsUpdate, HeadData, ReadsBy, no_head}
use Rattle.script_lines.specs.declared.lines.Line.{Line}
use Rattle.script_words.specs.Fields.{each_word, fields_of, name_of, value_of}
use Rattle.script_words.specs.Meaning.{next_as, onward}
use Rattle.script_words.specs.Texts.{next_text, text_of}
use Rattle.script_words.specs.WordValues.{id_of, tree_of}
use Rattle.script_words.specs.declared.stops.Stop.{Stop}

-- the fields whose values are texts
abbrev pub takes_text : List ℕ → Bool
takes_text name = bytes_eq name (codes "toolkit") || bytes_eq name (codes "version")

-- a field is given once
abbrev pub once : {T : Type 0} → Option T → Option T → Option T
once None meant = meant
once (Some old) meant = None

abbrev pub with_focus : HeadData → NodeId → Option HeadData
with_focus head id = Some (record head { focus = Some id })

abbrev pub with_root : HeadData → NodeId → Option HeadData
with_root head id = Some (record head { root = Some id })

abbrev pub with_toolkit : HeadData → List ℕ → Option HeadData
with_toolkit head text = Some (record head { toolkit = Some text })

abbrev pub with_version : HeadData → List ℕ → Option HeadData
with_version head text = Some (record head { version = Some text })

-- the fields with one more
abbrev pub value_means : List ℕ → List ℕ → HeadData → Option HeadData
value_means name value head =
    if bytes_eq name (codes "focus") then onward (once head.focus (id_of value)) (with_focus head)
    else if bytes_eq name (codes "root") then onward (once head.root (id_of value)) (with_root head)
    else if bytes_eq name (codes "toolkit") then onward (once head.toolkit (text_of value)) (with_toolkit head)
    else if bytes_eq name (codes "version") then onward (once head.version (text_of value)) (with_version head)
    else None

abbrev pub by_value : List ℕ → Option (List ℕ) → HeadData → Option HeadData
by_value name None head = None
by_value name (Some value) head = value_means name value head

abbrev pub field_means : List ℕ → HeadData → Option HeadData
field_means word head = by_value (name_of word) (value_of word) head

-- a toolkit and its version come with a root
abbrev pub info_of : HeadData → Option NodeId → Option (Option InfoData)
info_of head None = if is_some head.toolkit || is_some head.version then None else Some None
info_of head (Some root) = Some (Some (record { root = root; toolkit_name = head.toolkit; toolkit_version = head.version }))

-- a focus is needed
abbrev pub finished : TreeId → HeadData → Option UpdateData
finished tree head =
    onward head.focus (λ focus. onward (info_of head head.root)
    (λ info. Some (record { name = tree; focus = focus; info = info; nodes = [] })))

-- THE MEANING OF THE LINE, from the tree on
abbrev pub update_means : Option (List ℕ) → Option UpdateData
update_means line =
    onward (next_as tree_of line) (λ tree. onward (each_word field_means (fields_of takes_text tree.1) no_head) (finished tree.0))

-- a line that begins an update is read as the update that it means, or is bad where it means none, unless memory runs out
abbrev pub ReadsUpdate : List ℕ → Result Line Stop → Type 0
ReadsUpdate text result = ReadsBy (codes "update") update_means BeginsUpdate text result

-- ---- how a reader goes over it

-- a value that comes next, of a field that may be given
abbrev pub once_next : {T U : Type 0} → Option U → Option (T × Option (List ℕ)) → Option (T × Option (List ℕ))
once_next None meant = meant
once_next (Some old) meant = None

-- the value of the field with this name, which comes next
abbrev pub value_at : List ℕ → Option (List ℕ) → HeadData → Option (HeadData × Option (List ℕ))
value_at name line head =
    if bytes_eq name (codes "focus") then
    onward (once_next head.focus (next_as id_of line)) (λ read. Some (record head { focus = Some read.0 }, read.1))
    else if bytes_eq name (codes "root") then
    onward (once_next head.root (next_as id_of line)) (λ read. Some (record head { root = Some read.0 }, read.1))
    else if bytes_eq name (codes "toolkit") then
    onward (once_next head.toolkit (next_text line)) (λ read. Some (record head { toolkit = Some read.0 }, read.1))
    else if bytes_eq name (codes "version") then
    onward (once_next head.version (next_text line)) (λ read. Some (record head { version = Some read.0 }, read.1))
    else None
