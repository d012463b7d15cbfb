-- The kinds of questions that C asks by numbers.
use Rattle.std.specs.Prelude.{ℕ, nat_lt, List, [], ◌∷◌, Option, Some, None, if◌then◌else◌}
use Rattle.schema.specs.declared.actions.Action.{Action}
use Rattle.script_nodes.specs.ActionLists.{action_numbered}
use Rattle.fed_tree_c.specs.Numbers.{action_place}
use Rattle.fed_tree_c.specs.declared.kinds.State.{State}
use Rattle.fed_tree_c.specs.declared.kinds.State.TheVariants as state
use Rattle.fed_tree.specs.declared.computed.Count.{Count}
use Rattle.fed_tree.specs.declared.computed.Count.TheVariants as count
use Rattle.fed_tree.specs.declared.computed.Relative.{Relative}
use Rattle.fed_tree.specs.declared.computed.Relative.TheVariants as relative
use Rattle.fed_tree.specs.declared.lists.Listed.{Listed}
use Rattle.fed_tree.specs.declared.lists.Listed.TheVariants as list
use Rattle.fed_tree.specs.declared.styles.Style.{Style}
use Rattle.fed_tree.specs.declared.styles.Style.TheVariants as style
use Rattle.fed_tree.specs.declared.spans.TextUnit.{TextUnit}
use Rattle.fed_tree.specs.declared.spans.TextUnit.TheVariants as unit
use Rattle.fed_tree.specs.declared.spots.SpotTest.{SpotTest}
use Rattle.fed_tree.specs.declared.spots.SpotTest.TheVariants as test

-- each of these has its place in the list as its number, counted from 0
abbrev pub all_states : List State
all_states =
    state.Toggled
    ∷ state.Selected
    ∷ state.Orientation
    ∷ state.Live
    ∷ []

abbrev pub all_counts : List Count
all_counts =
    count.Children
    ∷ count.Index
    ∷ count.FilteredChildren
    ∷ count.FilteredIndex
    ∷ count.SetSize
    ∷ count.SetPosition
    ∷ count.ContainerSetSize
    ∷ []

abbrev pub all_relatives : List Relative
all_relatives =
    relative.ActiveDescendant
    ∷ relative.DeepestFirstChild
    ∷ relative.DeepestLastChild
    ∷ relative.SelectionContainer
    ∷ []

abbrev pub all_lists : List Listed
all_lists =
    list.LabelledBy
    ∷ list.Controls
    ∷ list.PrecedingSiblings
    ∷ list.FollowingSiblings
    ∷ list.Descendants
    ∷ list.Items
    ∷ list.PrecedingFilteredSiblings
    ∷ list.FollowingFilteredSiblings
    ∷ list.FilteredDescendants
    ∷ []

abbrev pub all_styles : List Style
all_styles =
    style.TextDirection
    ∷ style.FontFamily
    ∷ style.Language
    ∷ style.FontSize
    ∷ style.FontWeight
    ∷ style.BackgroundColor
    ∷ style.ForegroundColor
    ∷ style.Overline
    ∷ style.Strikethrough
    ∷ style.Underline
    ∷ style.TextAlign
    ∷ style.VerticalOffset
    ∷ style.Italic
    ∷ []

abbrev pub all_units : List TextUnit
all_units =
    unit.Character
    ∷ unit.Format
    ∷ unit.Word
    ∷ unit.Line
    ∷ unit.Paragraph
    ∷ unit.Page
    ∷ []

abbrev pub all_tests : List SpotTest
all_tests =
    test.CharacterAfter
    ∷ test.CharacterBefore
    ∷ test.FormatStart
    ∷ test.WordStart
    ∷ test.LineStart
    ∷ test.LineEnd
    ∷ test.ParagraphStart
    ∷ test.ParagraphEnd
    ∷ test.ParagraphSeparator
    ∷ test.DocumentStart
    ∷ test.DocumentEnd
    ∷ []

-- the action with this number, as updates have them
abbrev pub action_said : ℕ → Option Action
action_said number = if nat_lt (action_place number) 260 then Some (action_numbered (action_place number)) else None
