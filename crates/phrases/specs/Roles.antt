-- Words for roles.
use Rattle.std.specs.Prelude.{ℕ, List as Sequence, unwrap_or, codes}
use Rattle.schema.specs.declared.Role.{Role}
use Rattle.schema.specs.declared.Role.TheVariants.{Unknown, Window, ScrollView, Paragraph, GenericContainer, TextRun, Label, Image, Document, Terminal, TextInput, MultilineTextInput, SearchInput, DateInput, DateTimeInput, WeekInput, MonthInput, TimeInput, EmailInput, NumberInput, PasswordInput, PhoneNumberInput, UrlInput, EditableComboBox, SpinButton, ListBox, TabList, AlertDialog, Dialog, ComboBox, DisclosureTriangle, TreeItem, Button, CheckBox, DefaultButton, Link, MenuItem, MenuItemCheckBox, MenuItemRadio, RadioButton, DocBackLink, DocBiblioRef, DocGlossRef, DocNoteRef, ColorWell, Grid, MenuListPopup, RadioGroup, Slider, Switch, TreeGrid, Article, Definition, DescriptionList, GraphicsDocument, List, ListItem, PdfRoot, ProgressIndicator, RootWebArea, Term, Timer, Toolbar, Tooltip, Comment, Tab, ListBoxOption, MenuListOption, ListGrid, Menu, MenuBar, Tree, Other}
use Rattle.role_names.specs.Names.{word_of}
use Rattle.phrases.specs.declared.states.Toggling.{Toggling}
use Rattle.phrases.specs.declared.states.Toggling.TheVariants.{Checks, Presses, Switches}

-- a role that is sent by a number has the word of its name, if it has one
abbrev pub other_word : ℕ → Sequence ℕ
other_word number = unwrap_or (word_of number) (codes "element")

-- each role has a word
abbrev pub role_word : Role → Sequence ℕ
role_word Unknown = codes "unknown"
role_word Window = codes "window"
role_word ScrollView = codes "scroll view"
role_word Paragraph = codes "paragraph"
role_word GenericContainer = codes "group"
role_word TextRun = codes "text"
role_word Label = codes "label"
role_word Image = codes "image"
role_word Document = codes "document"
role_word Terminal = codes "terminal"
role_word TextInput = codes "text input"
role_word MultilineTextInput = codes "multiline text input"
role_word SearchInput = codes "search input"
role_word DateInput = codes "date input"
role_word DateTimeInput = codes "date and time input"
role_word WeekInput = codes "week input"
role_word MonthInput = codes "month input"
role_word TimeInput = codes "time input"
role_word EmailInput = codes "email input"
role_word NumberInput = codes "number input"
role_word PasswordInput = codes "password input"
role_word PhoneNumberInput = codes "phone number input"
role_word UrlInput = codes "address input"
role_word EditableComboBox = codes "editable combo box"
role_word SpinButton = codes "spin button"
role_word ListBox = codes "list box"
role_word TabList = codes "tab list"
role_word AlertDialog = codes "alert dialog"
role_word Dialog = codes "dialog"
role_word ComboBox = codes "combo box"
role_word DisclosureTriangle = codes "disclosure triangle"
role_word TreeItem = codes "tree item"
role_word Button = codes "button"
role_word CheckBox = codes "check box"
role_word DefaultButton = codes "default button"
role_word Link = codes "link"
role_word MenuItem = codes "menu item"
role_word MenuItemCheckBox = codes "menu check box"
role_word MenuItemRadio = codes "menu radio button"
role_word RadioButton = codes "radio button"
role_word DocBackLink = codes "back link"
role_word DocBiblioRef = codes "bibliography link"
role_word DocGlossRef = codes "glossary link"
role_word DocNoteRef = codes "note link"
role_word ColorWell = codes "color well"
role_word Grid = codes "grid"
role_word MenuListPopup = codes "menu list"
role_word RadioGroup = codes "radio group"
role_word Slider = codes "slider"
role_word Switch = codes "switch"
role_word TreeGrid = codes "tree grid"
role_word Article = codes "article"
role_word Definition = codes "definition"
role_word DescriptionList = codes "description list"
role_word GraphicsDocument = codes "graphics document"
role_word List = codes "list"
role_word ListItem = codes "list item"
role_word PdfRoot = codes "PDF document"
role_word ProgressIndicator = codes "progress bar"
role_word RootWebArea = codes "web page"
role_word Term = codes "term"
role_word Timer = codes "timer"
role_word Toolbar = codes "toolbar"
role_word Tooltip = codes "tooltip"
role_word Comment = codes "comment"
role_word Tab = codes "tab"
role_word ListBoxOption = codes "option"
role_word MenuListOption = codes "menu option"
role_word ListGrid = codes "list grid"
role_word Menu = codes "menu"
role_word MenuBar = codes "menu bar"
role_word Tree = codes "tree"
role_word (Other number) = other_word number

-- how a toggle state is said: as checked, as pressed, or as on
abbrev pub toggling_of : Role → Toggling
toggling_of Button = Presses
toggling_of DefaultButton = Presses
toggling_of Switch = Switches
toggling_of _ = Checks
