-- Which names are known, and which words are ids, trees and roles.
use Rattle.std.specs.Prelude.{ℕ, List, [], ◌∷◌, codes, map, Bool}
use Rattle.std.specs.List.{list_any}
use Rattle.std.specs.Str.{IsUtf8, bytes_eq}
use Rattle.schema.specs.declared.Role.{Role}
use Rattle.schema.specs.declared.Role.TheVariants as role
use Rattle.schema.specs.RoleNames.{role_name}
use Rattle.schema.specs.declared.TreeId.{TreeId}
use Rattle.script_nodes.specs.FieldKinds.{all_fields, field_name}
use Rattle.script_words.specs.Reading.{IsCount, IsRole}
use Rattle.script_words.specs.Says.{SaysNumber, SaysRole, SaysTree}
use Rattle.line_faults.specs.declared.reasons.FieldSet.{FieldSet}
use Rattle.line_faults.specs.declared.reasons.FieldSet.TheVariants.{Node, Update}

-- the names of the fields of a node, and of the line that begins an update
abbrev pub field_names : FieldSet → List (List ℕ)
field_names Node = map field_name all_fields
field_names Update = codes "focus" ∷ codes "root" ∷ codes "toolkit" ∷ codes "version" ∷ []

-- the roles that have names, and the names
abbrev pub all_roles : List Role
all_roles =
    role.Unknown ∷ role.Window ∷ role.ScrollView ∷ role.Paragraph ∷ role.GenericContainer ∷ role.TextRun ∷ role.Label ∷ role.Image ∷
    role.Document ∷ role.Terminal ∷ role.TextInput ∷ role.MultilineTextInput ∷ role.SearchInput ∷ role.DateInput ∷ role.DateTimeInput
    ∷ role.WeekInput ∷ role.MonthInput ∷ role.TimeInput ∷ role.EmailInput ∷ role.NumberInput ∷ role.PasswordInput ∷
    role.PhoneNumberInput ∷ role.UrlInput ∷ role.EditableComboBox ∷ role.SpinButton ∷ role.ListBox ∷ role.TabList ∷ role.AlertDialog ∷
    role.Dialog ∷ role.ComboBox ∷ role.DisclosureTriangle ∷ role.TreeItem ∷ role.Button ∷ role.CheckBox ∷ role.DefaultButton ∷
    role.Link ∷ role.MenuItem ∷ role.MenuItemCheckBox ∷ role.MenuItemRadio ∷ role.RadioButton ∷ role.DocBackLink ∷ role.DocBiblioRef ∷
    role.DocGlossRef ∷ role.DocNoteRef ∷ role.ColorWell ∷ role.Grid ∷ role.MenuListPopup ∷ role.RadioGroup ∷ role.Slider ∷ role.Switch
    ∷ role.TreeGrid ∷ role.Article ∷ role.Definition ∷ role.DescriptionList ∷ role.GraphicsDocument ∷ role.List ∷ role.ListItem ∷
    role.PdfRoot ∷ role.ProgressIndicator ∷ role.RootWebArea ∷ role.Term ∷ role.Timer ∷ role.Toolbar ∷ role.Tooltip ∷ role.Comment ∷
    role.Tab ∷ role.ListBoxOption ∷ role.MenuListOption ∷ role.ListGrid ∷ role.Menu ∷ role.MenuBar ∷ role.Tree ∷ []

abbrev pub role_names : List (List ℕ)
role_names = map role_name all_roles

abbrev pub is_field : FieldSet → List ℕ → Bool
is_field set name = list_any (λ known. bytes_eq known name) (field_names set)

-- a number in the range of ids
abbrev pub IsIdWord : List ℕ → Type 0
IsIdWord word = IsUtf8 word × ((n : ℕ) × IsCount n × SaysNumber word n)

-- a tree's id
abbrev pub IsTreeWord : List ℕ → Type 0
IsTreeWord word = IsUtf8 word × ((tree : TreeId) × SaysTree word tree)

-- a role's name, or `Other` with a number of 16 bits
abbrev pub IsRoleWord : List ℕ → Type 0
IsRoleWord word = IsUtf8 word × ((role : Role) × IsRole role × SaysRole word role)
