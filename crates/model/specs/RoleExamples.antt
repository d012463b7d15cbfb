-- The classes of roles, as lists.
use Rattle.std.specs.Prelude.{◌≡◌, ℕ, false, List, [], ◌∷◌, filter}
use Rattle.schema.specs.declared.Role.{Role}
use Rattle.schema.specs.declared.Role.TheVariants as role
use Rattle.model.specs.RoleClasses.{is_text_input, is_read_only_supported, is_read_only_by_default, is_item_like, is_container_with_selectable_children, is_expandable, is_link, is_labelled_from_within, is_see_through, is_document, is_dialog, is_multiline, is_password_input, is_label}

-- all roles that have a name
abbrev pub ROLES : List Role
ROLES =
    role.Unknown ∷ role.Window ∷ role.ScrollView ∷ role.Paragraph ∷ role.GenericContainer ∷ role.TextRun ∷ role.Label ∷ role.Image
    ∷ role.Document ∷ role.Terminal ∷ role.TextInput ∷ role.MultilineTextInput ∷ role.SearchInput ∷ role.DateInput ∷ role.DateTimeInput
    ∷ role.WeekInput ∷ role.MonthInput ∷ role.TimeInput ∷ role.EmailInput ∷ role.NumberInput ∷ role.PasswordInput
    ∷ role.PhoneNumberInput ∷ role.UrlInput ∷ role.EditableComboBox ∷ role.SpinButton ∷ role.ListBox ∷ role.TabList ∷ role.AlertDialog
    ∷ role.Dialog ∷ role.ComboBox ∷ role.DisclosureTriangle ∷ role.TreeItem ∷ role.Button ∷ role.CheckBox ∷ role.DefaultButton
    ∷ role.Link ∷ role.MenuItem ∷ role.MenuItemCheckBox ∷ role.MenuItemRadio ∷ role.RadioButton ∷ role.DocBackLink ∷ role.DocBiblioRef
    ∷ role.DocGlossRef ∷ role.DocNoteRef ∷ role.ColorWell ∷ role.Grid ∷ role.MenuListPopup ∷ role.RadioGroup ∷ role.Slider ∷ role.Switch
    ∷ role.TreeGrid ∷ role.Article ∷ role.Definition ∷ role.DescriptionList ∷ role.GraphicsDocument ∷ role.List ∷ role.ListItem
    ∷ role.PdfRoot ∷ role.ProgressIndicator ∷ role.RootWebArea ∷ role.Term ∷ role.Timer ∷ role.Toolbar ∷ role.Tooltip ∷ role.Comment
    ∷ role.Tab ∷ role.ListBoxOption ∷ role.MenuListOption ∷ role.ListGrid ∷ role.Menu ∷ role.MenuBar ∷ role.Tree ∷ []

pub record RoleLists : Type 0 where
  pub text_inputs : filter is_text_input ROLES
      ≡ role.TextInput ∷ role.MultilineTextInput ∷ role.SearchInput ∷ role.DateInput ∷ role.DateTimeInput ∷ role.WeekInput
      ∷ role.MonthInput ∷ role.TimeInput ∷ role.EmailInput ∷ role.NumberInput ∷ role.PasswordInput ∷ role.PhoneNumberInput
      ∷ role.UrlInput ∷ role.EditableComboBox ∷ role.SpinButton ∷ []
  pub read_only_supported : filter is_read_only_supported ROLES
      ≡ role.TextInput ∷ role.MultilineTextInput ∷ role.SearchInput ∷ role.DateInput ∷ role.DateTimeInput ∷ role.WeekInput
      ∷ role.MonthInput ∷ role.TimeInput ∷ role.EmailInput ∷ role.NumberInput ∷ role.PasswordInput ∷ role.PhoneNumberInput
      ∷ role.UrlInput ∷ role.EditableComboBox ∷ role.SpinButton ∷ role.ListBox ∷ role.ComboBox ∷ role.CheckBox ∷ role.MenuItemCheckBox
      ∷ role.MenuItemRadio ∷ role.RadioButton ∷ role.ColorWell ∷ role.Grid ∷ role.MenuListPopup ∷ role.RadioGroup ∷ role.Slider
      ∷ role.Switch ∷ role.TreeGrid ∷ []
  pub read_only_by_default : filter is_read_only_by_default ROLES
      ≡ role.Image ∷ role.Document ∷ role.Article ∷ role.Definition ∷ role.DescriptionList ∷ role.GraphicsDocument ∷ role.List
      ∷ role.ListItem ∷ role.PdfRoot ∷ role.ProgressIndicator ∷ role.RootWebArea ∷ role.Term ∷ role.Timer ∷ role.Toolbar ∷ role.Tooltip
      ∷ []
  pub items : filter is_item_like ROLES
      ≡ role.TreeItem ∷ role.MenuItem ∷ role.MenuItemCheckBox ∷ role.MenuItemRadio ∷ role.RadioButton ∷ role.Article ∷ role.ListItem
      ∷ role.Term ∷ role.Comment ∷ role.Tab ∷ role.ListBoxOption ∷ role.MenuListOption ∷ []
  pub containers : filter is_container_with_selectable_children ROLES
      ≡ role.EditableComboBox ∷ role.ListBox ∷ role.TabList ∷ role.ComboBox ∷ role.Grid ∷ role.MenuListPopup ∷ role.RadioGroup
      ∷ role.TreeGrid ∷ role.Toolbar ∷ role.ListGrid ∷ role.Menu ∷ role.MenuBar ∷ role.Tree ∷ []
  pub expandable : filter is_expandable ROLES ≡ role.EditableComboBox ∷ role.ComboBox ∷ role.DisclosureTriangle ∷ role.TreeItem ∷ []
  pub links : filter is_link ROLES ≡ role.Link ∷ role.DocBackLink ∷ role.DocBiblioRef ∷ role.DocGlossRef ∷ role.DocNoteRef ∷ []
  pub labelled_from_within : filter is_labelled_from_within ROLES
      ≡ role.Button ∷ role.CheckBox ∷ role.DefaultButton ∷ role.Link ∷ role.MenuItem ∷ role.MenuItemCheckBox ∷ role.MenuItemRadio
      ∷ role.RadioButton ∷ []
  pub see_through : filter is_see_through ROLES ≡ role.GenericContainer ∷ role.TextRun ∷ []
  pub documents : filter is_document ROLES ≡ role.Document ∷ role.Terminal ∷ []
  pub dialogs : filter is_dialog ROLES ≡ role.AlertDialog ∷ role.Dialog ∷ []
  pub multiline : filter is_multiline ROLES ≡ role.MultilineTextInput ∷ []
  pub passwords : filter is_password_input ROLES ≡ role.PasswordInput ∷ []
  pub labels : filter is_label ROLES ≡ role.Label ∷ []

-- a role that is known by its number alone is of no class
pub record OtherRoles (n : ℕ) : Type 0 where
  pub text_inputs : is_text_input (role.Other n) ≡ false
  pub read_only_supported : is_read_only_supported (role.Other n) ≡ false
  pub read_only_by_default : is_read_only_by_default (role.Other n) ≡ false
  pub items : is_item_like (role.Other n) ≡ false
  pub containers : is_container_with_selectable_children (role.Other n) ≡ false
  pub expandable : is_expandable (role.Other n) ≡ false
  pub links : is_link (role.Other n) ≡ false
  pub labelled_from_within : is_labelled_from_within (role.Other n) ≡ false
  pub see_through : is_see_through (role.Other n) ≡ false
  pub documents : is_document (role.Other n) ≡ false
  pub dialogs : is_dialog (role.Other n) ≡ false
  pub multiline : is_multiline (role.Other n) ≡ false
  pub passwords : is_password_input (role.Other n) ≡ false
  pub labels : is_label (role.Other n) ≡ false
