-- All values of a kind that have names, in lists, and what the list of their names is.
use Rattle.std.specs.Prelude.{ℕ, ◌≡◌, List, [], ◌∷◌, map, Bool, true, false}
use Rattle.std.specs.Borrow.{Bor}
use Rattle.model.specs.declared.queries.NamedFilter.{NamedFilter}
use Rattle.model.specs.declared.queries.NamedFilter.TheVariants as filter
use Rattle.model.specs.declared.queries.Side.{Side}
use Rattle.model.specs.declared.queries.Side.TheVariants as side
use Rattle.model.specs.declared.queries.Move.{Move}
use Rattle.model.specs.declared.queries.Move.TheVariants as move
use Rattle.schema.specs.declared.Role.{Role}
use Rattle.schema.specs.declared.Role.TheVariants as role
use Rattle.schema.specs.declared.values.Toggled.{Toggled}
use Rattle.schema.specs.declared.values.Toggled.TheVariants as toggled
use Rattle.schema.specs.declared.values.Live.{Live}
use Rattle.schema.specs.declared.values.Live.TheVariants as live
use Rattle.schema.specs.declared.values.Orientation.{Orientation}
use Rattle.schema.specs.declared.values.Orientation.TheVariants as orientation
use Rattle.schema.specs.declared.values.SortDirection.{SortDirection}
use Rattle.schema.specs.declared.values.SortDirection.TheVariants as sort_direction
use Rattle.schema.specs.declared.values.AriaCurrent.{AriaCurrent}
use Rattle.schema.specs.declared.values.AriaCurrent.TheVariants as aria_current
use Rattle.schema.specs.declared.values.HasPopup.{HasPopup}
use Rattle.schema.specs.declared.values.HasPopup.TheVariants as has_popup
use Rattle.schema.specs.declared.values.TextDirection.{TextDirection}
use Rattle.schema.specs.declared.values.TextDirection.TheVariants as text_direction
use Rattle.schema.specs.declared.values.TextAlign.{TextAlign}
use Rattle.schema.specs.declared.values.TextAlign.TheVariants as text_align
use Rattle.schema.specs.declared.values.VerticalOffset.{VerticalOffset}
use Rattle.schema.specs.declared.values.VerticalOffset.TheVariants as vertical_offset
use Rattle.schema.specs.declared.values.TextDecorationStyle.{TextDecorationStyle}
use Rattle.schema.specs.declared.values.TextDecorationStyle.TheVariants as decoration_style

-- these texts are the names of these values, in order
abbrev pub AreNames : {T : Type 0} → (T → List ℕ) → List T → List (Bor (List ℕ)) → Type 0
AreNames name values texts = map (λ text. text.now) texts ≡ map name values

abbrev pub all_truths : List Bool
all_truths = true ∷ false ∷ []

abbrev pub all_filters : List NamedFilter
all_filters = filter.All ∷ filter.Common ∷ filter.CommonWithRoot ∷ []

abbrev pub all_sides : List Side
all_sides = side.Start ∷ side.End ∷ []

abbrev pub all_moves : List Move
all_moves =
    move.ForwardToCharacterStart ∷ move.ForwardToCharacterEnd ∷ move.BackwardToCharacterStart ∷ move.ForwardToFormatStart
    ∷ move.ForwardToFormatEnd ∷ move.BackwardToFormatStart ∷ move.ForwardToWordStart ∷ move.ForwardToWordEnd ∷ move.BackwardToWordStart
    ∷ move.ForwardToLineStart ∷ move.ForwardToLineEnd ∷ move.BackwardToLineStart ∷ move.ForwardToParagraphStart
    ∷ move.ForwardToParagraphEnd ∷ move.BackwardToParagraphStart ∷ move.ForwardToPageStart ∷ move.ForwardToPageEnd ∷ move.DocumentEnd
    ∷ move.BackwardToPageStart ∷ move.DocumentStart ∷ []

abbrev pub all_toggles : List Toggled
all_toggles = toggled.True ∷ toggled.False ∷ toggled.Mixed ∷ []

abbrev pub all_lives : List Live
all_lives = live.Off ∷ live.Polite ∷ live.Assertive ∷ []

abbrev pub all_orientations : List Orientation
all_orientations = orientation.Horizontal ∷ orientation.Vertical ∷ []

abbrev pub all_sort_directions : List SortDirection
all_sort_directions = sort_direction.Ascending ∷ sort_direction.Descending ∷ sort_direction.Other ∷ []

abbrev pub all_currents : List AriaCurrent
all_currents =
    aria_current.False ∷ aria_current.True ∷ aria_current.Page ∷ aria_current.Step ∷ aria_current.Location ∷ aria_current.Date
    ∷ aria_current.Time ∷ []

abbrev pub all_popups : List HasPopup
all_popups = has_popup.Menu ∷ has_popup.Listbox ∷ has_popup.Tree ∷ has_popup.Grid ∷ has_popup.Dialog ∷ []

abbrev pub all_text_directions : List TextDirection
all_text_directions = text_direction.LeftToRight ∷ text_direction.RightToLeft ∷ text_direction.TopToBottom ∷ text_direction.BottomToTop ∷ []

abbrev pub all_text_aligns : List TextAlign
all_text_aligns = text_align.Left ∷ text_align.Right ∷ text_align.Center ∷ text_align.Justify ∷ []

abbrev pub all_vertical_offsets : List VerticalOffset
all_vertical_offsets = vertical_offset.Subscript ∷ vertical_offset.Superscript ∷ []

abbrev pub all_decoration_styles : List TextDecorationStyle
all_decoration_styles =
    decoration_style.Solid ∷ decoration_style.Dotted ∷ decoration_style.Dashed ∷ decoration_style.Double ∷ decoration_style.Wavy ∷ []

-- each role that has a name
unfoldable pub all_roles : List Role
all_roles =
    role.Unknown ∷ role.Window ∷ role.ScrollView ∷ role.Paragraph ∷ role.GenericContainer ∷ role.TextRun ∷ role.Label ∷
    role.Image ∷ role.Document ∷ role.Terminal ∷ role.TextInput ∷ role.MultilineTextInput ∷ role.SearchInput ∷
    role.DateInput ∷ role.DateTimeInput ∷ role.WeekInput ∷ role.MonthInput ∷ role.TimeInput ∷ role.EmailInput ∷
    role.NumberInput ∷ role.PasswordInput ∷ role.PhoneNumberInput ∷ role.UrlInput ∷ role.EditableComboBox ∷
    role.SpinButton ∷ role.ListBox ∷ role.TabList ∷ role.AlertDialog ∷ role.Dialog ∷ role.ComboBox ∷
    role.DisclosureTriangle ∷ role.TreeItem ∷ role.Button ∷ role.CheckBox ∷ role.DefaultButton ∷ role.Link ∷
    role.MenuItem ∷ role.MenuItemCheckBox ∷ role.MenuItemRadio ∷ role.RadioButton ∷ role.DocBackLink ∷
    role.DocBiblioRef ∷ role.DocGlossRef ∷ role.DocNoteRef ∷ role.ColorWell ∷ role.Grid ∷ role.MenuListPopup ∷
    role.RadioGroup ∷ role.Slider ∷ role.Switch ∷ role.TreeGrid ∷ role.Article ∷ role.Definition ∷
    role.DescriptionList ∷ role.GraphicsDocument ∷ role.List ∷ role.ListItem ∷ role.PdfRoot ∷ role.ProgressIndicator ∷
    role.RootWebArea ∷ role.Term ∷ role.Timer ∷ role.Toolbar ∷ role.Tooltip ∷ role.Comment ∷ role.Tab ∷
    role.ListBoxOption ∷ role.MenuListOption ∷ role.ListGrid ∷ role.Menu ∷ role.MenuBar ∷ role.Tree ∷ []
