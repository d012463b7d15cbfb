-- When a line has an unknown field or an unknown role.
use Rattle.std.specs.Prelude.{ℕ, ◌+◌, ◌≡◌, ◌<◌, List, codes, length, drop, Bool, true, false}
use Rattle.std.specs.Str.{IsUtf8}
use Rattle.line_text.specs.Starts.{IsUnknownAt, name_length}
use Rattle.line_text.specs.Words.{next_word, word_at}
use Rattle.line_faults.specs.Known.{IsIdWord, IsRoleWord, IsTreeWord, is_field}
use Rattle.line_faults.specs.declared.reasons.FieldSet.{FieldSet}
use Rattle.line_faults.specs.declared.reasons.FieldSet.TheVariants.{Node, Update}
use Rattle.line_faults.specs.declared.reasons.LineFault.{LineFault}
use Rattle.line_faults.specs.declared.reasons.Reason.TheVariants as reason

-- where the second and the third word of a line begin, and what comes after them
abbrev pub second_word : List ℕ → ℕ
second_word line = next_word line 0

abbrev pub third_word : List ℕ → ℕ
third_word line = next_word line (second_word line)

abbrev pub after_third : List ℕ → ℕ
after_third line = next_word line (third_word line)

-- inside an update, the line begins with `node` and a node's id
pub record IsNodeLine (is_inside : Bool) (line : List ℕ) : Type 0 where
  pub inside : is_inside ≡ true
  pub word : word_at line 0 ≡ codes "node"
  pub id : IsIdWord (word_at line (second_word line))

-- the word after it is no role
pub record HasUnknownRole (is_inside : Bool) (line : List ℕ) : Type 0 where
  pub begins : IsNodeLine is_inside line
  pub some : 0 < length (word_at line (third_word line))
  pub unknown : ¬ (IsRoleWord (word_at line (third_word line)))

-- it is a role, so that the fields come next; or, outside of an update, the line begins with `update` and a tree's id
pub record IsFieldsLine (is_inside : Bool) (line : List ℕ) (at : ℕ) : Type 0 where
  pub begins : IsNodeLine is_inside line
  pub role : IsRoleWord (word_at line (third_word line))
  pub fields : at ≡ after_third line

pub record IsUpdateLine (is_inside : Bool) (line : List ℕ) (at : ℕ) : Type 0 where
  pub outside : is_inside ≡ false
  pub word : word_at line 0 ≡ codes "update"
  pub tree : IsTreeWord (word_at line (second_word line))
  pub fields : at ≡ third_word line

-- the fields of a line of this kind begin here
abbrev pub HasFieldsFrom : FieldSet → Bool → List ℕ → ℕ → Type 0
HasFieldsFrom Node is_inside line at = IsFieldsLine is_inside line at
HasFieldsFrom Update is_inside line at = IsUpdateLine is_inside line at

-- of what begins here, a field has a name that is none of such a line's
abbrev pub SomeIsUnknown : FieldSet → List ℕ → ℕ → Type 0
SomeIsUnknown set line at = (k : ℕ) × IsUnknownAt (is_field set) (drop at line) k

-- the line has a field with an unknown name
abbrev pub HasUnknownField : FieldSet → Bool → List ℕ → Type 0
HasUnknownField set is_inside line = (at : ℕ) × HasFieldsFrom set is_inside line at × SomeIsUnknown set line at

-- the fault is at the first of these names
pub record IsAtFirstUnknown (set : FieldSet) (line : List ℕ) (at : ℕ) (fault : LineFault) : Type 0 where
  pub place : ℕ
  pub unknown : IsUnknownAt (is_field set) (drop at line) place
  pub first : (k : ℕ) → k < place → ¬ (IsUnknownAt (is_field set) (drop at line) k)
  pub start : fault.start ≡ at + place
  pub end : fault.end ≡ fault.start + name_length (drop fault.start line)

-- the fault is at the word that begins here
abbrev pub IsAtWord : List ℕ → ℕ → LineFault → Type 0
IsAtWord line at fault = (fault.start ≡ at) × (fault.end ≡ at + length (word_at line at))

-- if the fault is an unknown role, the line has one, and the fault is at it
abbrev pub RoleIsThere : Bool → List ℕ → LineFault → Type 0
RoleIsThere is_inside line fault =
    fault.reason ≡ reason.UnknownRole → HasUnknownRole is_inside line × IsAtWord line (third_word line) fault

-- if the fault is an unknown field, the line has one, and the fault is at the first
abbrev pub FieldIsThere : Bool → List ℕ → LineFault → Type 0
FieldIsThere is_inside line fault =
    (set : FieldSet) → fault.reason ≡ reason.UnknownField set
    → (at : ℕ) × HasFieldsFrom set is_inside line at × IsAtFirstUnknown set line at fault

-- if the line has an unknown field, the fault is one
abbrev pub FieldIsFound : Bool → List ℕ → LineFault → Type 0
FieldIsFound is_inside line fault = (set : FieldSet) → HasUnknownField set is_inside line → fault.reason ≡ reason.UnknownField set

-- the fault explains the line: it is an unknown role, or an unknown field, exactly if the line has one, and it is there
pub record Explains (is_inside : Bool) (line : List ℕ) (fault : LineFault) : Type 0 where
  pub role : RoleIsThere is_inside line fault
  pub role_found : IsUtf8 line → HasUnknownRole is_inside line → fault.reason ≡ reason.UnknownRole
  pub field : FieldIsThere is_inside line fault
  pub field_found : (set : FieldSet) → IsUtf8 line → HasUnknownField set is_inside line → fault.reason ≡ reason.UnknownField set
