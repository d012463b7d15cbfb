-- Classes of roles.
use Rattle.std.specs.Prelude.{Bool, true, false, ◌||◌, Option, Some, None}
use Rattle.schema.specs.declared.Role.{Role}
use Rattle.schema.specs.declared.Role.TheVariants.{GenericContainer, TextRun, Label, Image, Document, Terminal, TextInput, MultilineTextInput, SearchInput, DateInput, DateTimeInput, WeekInput, MonthInput, TimeInput, EmailInput, NumberInput, PasswordInput, PhoneNumberInput, UrlInput, EditableComboBox, SpinButton, ListBox, TabList, AlertDialog, Dialog, ComboBox, DisclosureTriangle, TreeItem, Button, CheckBox, DefaultButton, Link, MenuItem, MenuItemCheckBox, MenuItemRadio, RadioButton, DocBackLink, DocBiblioRef, DocGlossRef, DocNoteRef, ColorWell, Grid, MenuListPopup, RadioGroup, Slider, Switch, TreeGrid, Article, Definition, DescriptionList, GraphicsDocument, List, ListItem, PdfRoot, ProgressIndicator, RootWebArea, Term, Timer, Toolbar, Tooltip, Comment, Tab, ListBoxOption, MenuListOption, ListGrid, Menu, MenuBar, Tree}
use Rattle.schema.specs.declared.values.Orientation.{Orientation}
use Rattle.schema.specs.declared.values.Orientation.TheVariants.{Horizontal, Vertical}

-- its text can be edited
abbrev pub is_text_input : Role → Bool
is_text_input TextInput = true
is_text_input MultilineTextInput = true
is_text_input SearchInput = true
is_text_input DateInput = true
is_text_input DateTimeInput = true
is_text_input WeekInput = true
is_text_input MonthInput = true
is_text_input TimeInput = true
is_text_input EmailInput = true
is_text_input NumberInput = true
is_text_input PasswordInput = true
is_text_input PhoneNumberInput = true
is_text_input UrlInput = true
is_text_input EditableComboBox = true
is_text_input SpinButton = true
is_text_input _ = false

abbrev pub is_multiline : Role → Bool
is_multiline MultilineTextInput = true
is_multiline _ = false

abbrev pub is_password_input : Role → Bool
is_password_input PasswordInput = true
is_password_input _ = false

-- it holds text that is read and not edited, besides labels
abbrev pub is_document : Role → Bool
is_document Document = true
is_document Terminal = true
is_document _ = false

abbrev pub is_dialog : Role → Bool
is_dialog AlertDialog = true
is_dialog Dialog = true
is_dialog _ = false

-- the common filter excludes it alone
abbrev pub is_see_through : Role → Bool
is_see_through GenericContainer = true
is_see_through TextRun = true
is_see_through _ = false

-- a field or choice, other than a text input, that can be read-only
abbrev pub is_other_field : Role → Bool
is_other_field CheckBox = true
is_other_field ColorWell = true
is_other_field ComboBox = true
is_other_field Grid = true
is_other_field ListBox = true
is_other_field MenuItemCheckBox = true
is_other_field MenuItemRadio = true
is_other_field MenuListPopup = true
is_other_field RadioButton = true
is_other_field RadioGroup = true
is_other_field Slider = true
is_other_field Switch = true
is_other_field TreeGrid = true
is_other_field _ = false

-- the read-only state applies to it
abbrev pub is_read_only_supported : Role → Bool
is_read_only_supported role = is_text_input role || is_other_field role

-- it is read-only unless stated otherwise
abbrev pub is_read_only_by_default : Role → Bool
is_read_only_by_default Article = true
is_read_only_by_default Definition = true
is_read_only_by_default DescriptionList = true
is_read_only_by_default Document = true
is_read_only_by_default GraphicsDocument = true
is_read_only_by_default Image = true
is_read_only_by_default List = true
is_read_only_by_default ListItem = true
is_read_only_by_default PdfRoot = true
is_read_only_by_default ProgressIndicator = true
is_read_only_by_default RootWebArea = true
is_read_only_by_default Term = true
is_read_only_by_default Timer = true
is_read_only_by_default Toolbar = true
is_read_only_by_default Tooltip = true
is_read_only_by_default _ = false

-- it can be an item of a set
abbrev pub is_item_like : Role → Bool
is_item_like Article = true
is_item_like Comment = true
is_item_like ListItem = true
is_item_like MenuItem = true
is_item_like MenuItemRadio = true
is_item_like Tab = true
is_item_like MenuItemCheckBox = true
is_item_like TreeItem = true
is_item_like ListBoxOption = true
is_item_like MenuListOption = true
is_item_like RadioButton = true
is_item_like Term = true
is_item_like _ = false

-- its children can be selected
abbrev pub is_container_with_selectable_children : Role → Bool
is_container_with_selectable_children ComboBox = true
is_container_with_selectable_children EditableComboBox = true
is_container_with_selectable_children Grid = true
is_container_with_selectable_children ListBox = true
is_container_with_selectable_children ListGrid = true
is_container_with_selectable_children Menu = true
is_container_with_selectable_children MenuBar = true
is_container_with_selectable_children MenuListPopup = true
is_container_with_selectable_children RadioGroup = true
is_container_with_selectable_children TabList = true
is_container_with_selectable_children Toolbar = true
is_container_with_selectable_children Tree = true
is_container_with_selectable_children TreeGrid = true
is_container_with_selectable_children _ = false

-- it expands and collapses, whatever its fields say
abbrev pub is_expandable : Role → Bool
is_expandable ComboBox = true
is_expandable EditableComboBox = true
is_expandable DisclosureTriangle = true
is_expandable TreeItem = true
is_expandable _ = false

-- it leads somewhere
abbrev pub is_link : Role → Bool
is_link Link = true
is_link DocBackLink = true
is_link DocBiblioRef = true
is_link DocGlossRef = true
is_link DocNoteRef = true
is_link _ = false

-- its part of another node's label is its value
abbrev pub is_label : Role → Bool
is_label Label = true
is_label _ = false

-- its runs can make a text that is walked by characters
abbrev pub holds_text : Role → Bool
holds_text role = is_text_input role || (is_document role || is_label role)

-- without a label of its own it is labelled by its contents
abbrev pub is_labelled_from_within : Role → Bool
is_labelled_from_within Button = true
is_labelled_from_within CheckBox = true
is_labelled_from_within DefaultButton = true
is_labelled_from_within Link = true
is_labelled_from_within MenuItem = true
is_labelled_from_within MenuItemCheckBox = true
is_labelled_from_within MenuItemRadio = true
is_labelled_from_within RadioButton = true
is_labelled_from_within _ = false

-- its usual axis, if the node has none
abbrev pub usual_orientation : Role → Option Orientation
usual_orientation ListBox = Some Vertical
usual_orientation TabList = Some Horizontal
usual_orientation _ = None
