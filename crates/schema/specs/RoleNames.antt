-- How a role prints.
use Rattle.std.specs.Prelude.{ℕ, List as Sequence, ◌++◌, Option, Some, None, codes}
use Rattle.std.specs.Fmt.{decimal}
use Rattle.schema.specs.declared.Role.{Role}
use Rattle.schema.specs.declared.Role.TheVariants.{Unknown, Window, ScrollView, Paragraph, GenericContainer, TextRun, Label, Image, Document, Terminal, TextInput, MultilineTextInput, SearchInput, DateInput, DateTimeInput, WeekInput, MonthInput, TimeInput, EmailInput, NumberInput, PasswordInput, PhoneNumberInput, UrlInput, EditableComboBox, SpinButton, ListBox, TabList, AlertDialog, Dialog, ComboBox, DisclosureTriangle, TreeItem, Button, CheckBox, DefaultButton, Link, MenuItem, MenuItemCheckBox, MenuItemRadio, RadioButton, DocBackLink, DocBiblioRef, DocGlossRef, DocNoteRef, ColorWell, Grid, MenuListPopup, RadioGroup, Slider, Switch, TreeGrid, Article, Definition, DescriptionList, GraphicsDocument, List, ListItem, PdfRoot, ProgressIndicator, RootWebArea, Term, Timer, Toolbar, Tooltip, Comment, Tab, ListBoxOption, MenuListOption, ListGrid, Menu, MenuBar, Tree, Other}

-- the name, as bytes
abbrev pub role_name : Role → Sequence ℕ
role_name Unknown = codes "Unknown"
role_name Window = codes "Window"
role_name ScrollView = codes "ScrollView"
role_name Paragraph = codes "Paragraph"
role_name GenericContainer = codes "GenericContainer"
role_name TextRun = codes "TextRun"
role_name Label = codes "Label"
role_name Image = codes "Image"
role_name Document = codes "Document"
role_name Terminal = codes "Terminal"
role_name TextInput = codes "TextInput"
role_name MultilineTextInput = codes "MultilineTextInput"
role_name SearchInput = codes "SearchInput"
role_name DateInput = codes "DateInput"
role_name DateTimeInput = codes "DateTimeInput"
role_name WeekInput = codes "WeekInput"
role_name MonthInput = codes "MonthInput"
role_name TimeInput = codes "TimeInput"
role_name EmailInput = codes "EmailInput"
role_name NumberInput = codes "NumberInput"
role_name PasswordInput = codes "PasswordInput"
role_name PhoneNumberInput = codes "PhoneNumberInput"
role_name UrlInput = codes "UrlInput"
role_name EditableComboBox = codes "EditableComboBox"
role_name SpinButton = codes "SpinButton"
role_name ListBox = codes "ListBox"
role_name TabList = codes "TabList"
role_name AlertDialog = codes "AlertDialog"
role_name Dialog = codes "Dialog"
role_name ComboBox = codes "ComboBox"
role_name DisclosureTriangle = codes "DisclosureTriangle"
role_name TreeItem = codes "TreeItem"
role_name Button = codes "Button"
role_name CheckBox = codes "CheckBox"
role_name DefaultButton = codes "DefaultButton"
role_name Link = codes "Link"
role_name MenuItem = codes "MenuItem"
role_name MenuItemCheckBox = codes "MenuItemCheckBox"
role_name MenuItemRadio = codes "MenuItemRadio"
role_name RadioButton = codes "RadioButton"
role_name DocBackLink = codes "DocBackLink"
role_name DocBiblioRef = codes "DocBiblioRef"
role_name DocGlossRef = codes "DocGlossRef"
role_name DocNoteRef = codes "DocNoteRef"
role_name ColorWell = codes "ColorWell"
role_name Grid = codes "Grid"
role_name MenuListPopup = codes "MenuListPopup"
role_name RadioGroup = codes "RadioGroup"
role_name Slider = codes "Slider"
role_name Switch = codes "Switch"
role_name TreeGrid = codes "TreeGrid"
role_name Article = codes "Article"
role_name Definition = codes "Definition"
role_name DescriptionList = codes "DescriptionList"
role_name GraphicsDocument = codes "GraphicsDocument"
role_name List = codes "List"
role_name ListItem = codes "ListItem"
role_name PdfRoot = codes "PdfRoot"
role_name ProgressIndicator = codes "ProgressIndicator"
role_name RootWebArea = codes "RootWebArea"
role_name Term = codes "Term"
role_name Timer = codes "Timer"
role_name Toolbar = codes "Toolbar"
role_name Tooltip = codes "Tooltip"
role_name Comment = codes "Comment"
role_name Tab = codes "Tab"
role_name ListBoxOption = codes "ListBoxOption"
role_name MenuListOption = codes "MenuListOption"
role_name ListGrid = codes "ListGrid"
role_name Menu = codes "Menu"
role_name MenuBar = codes "MenuBar"
role_name Tree = codes "Tree"
role_name (Other n) = codes "Other"

-- the number of a role without a name
abbrev pub other_number : Role → Option ℕ
other_number (Other n) = Some n
other_number Unknown = None
other_number Window = None
other_number ScrollView = None
other_number Paragraph = None
other_number GenericContainer = None
other_number TextRun = None
other_number Label = None
other_number Image = None
other_number Document = None
other_number Terminal = None
other_number TextInput = None
other_number MultilineTextInput = None
other_number SearchInput = None
other_number DateInput = None
other_number DateTimeInput = None
other_number WeekInput = None
other_number MonthInput = None
other_number TimeInput = None
other_number EmailInput = None
other_number NumberInput = None
other_number PasswordInput = None
other_number PhoneNumberInput = None
other_number UrlInput = None
other_number EditableComboBox = None
other_number SpinButton = None
other_number ListBox = None
other_number TabList = None
other_number AlertDialog = None
other_number Dialog = None
other_number ComboBox = None
other_number DisclosureTriangle = None
other_number TreeItem = None
other_number Button = None
other_number CheckBox = None
other_number DefaultButton = None
other_number Link = None
other_number MenuItem = None
other_number MenuItemCheckBox = None
other_number MenuItemRadio = None
other_number RadioButton = None
other_number DocBackLink = None
other_number DocBiblioRef = None
other_number DocGlossRef = None
other_number DocNoteRef = None
other_number ColorWell = None
other_number Grid = None
other_number MenuListPopup = None
other_number RadioGroup = None
other_number Slider = None
other_number Switch = None
other_number TreeGrid = None
other_number Article = None
other_number Definition = None
other_number DescriptionList = None
other_number GraphicsDocument = None
other_number List = None
other_number ListItem = None
other_number PdfRoot = None
other_number ProgressIndicator = None
other_number RootWebArea = None
other_number Term = None
other_number Timer = None
other_number Toolbar = None
other_number Tooltip = None
other_number Comment = None
other_number Tab = None
other_number ListBoxOption = None
other_number MenuListOption = None
other_number ListGrid = None
other_number Menu = None
other_number MenuBar = None
other_number Tree = None

-- the name, followed by the number in parentheses, if there is one
abbrev pub with_number : Sequence ℕ → Option ℕ → Sequence ℕ
with_number name None = name
with_number name (Some n) = name ++ codes "(" ++ decimal n ++ codes ")"

abbrev pub role_text : Role → Sequence ℕ
role_text r = with_number (role_name r) (other_number r)
