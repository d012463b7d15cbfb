-- What C says by numbers.
use Rattle.std.specs.Prelude.{◌≡◌, ◌≢◌, ◌+◌, ◌-◌, ℕ, min, nat_lt, Bool, List, [], ◌∷◌, Option, Some, None, if◌then◌else◌}
use Rattle.schema.specs.Roles.{role_number}
use Rattle.schema.specs.declared.Role.{Role}
use Rattle.model.specs.declared.filters.FilterResult.{FilterResult}
use Rattle.model.specs.declared.filters.FilterResult.TheVariants as answer
use Rattle.model.specs.declared.queries.At.{At}
use Rattle.model.specs.declared.queries.Move.{Move}
use Rattle.model.specs.declared.queries.Move.TheVariants as move
use Rattle.model.specs.declared.queries.NamedFilter.{NamedFilter}
use Rattle.model.specs.declared.queries.NamedFilter.TheVariants as filter
use Rattle.model.specs.declared.queries.Side.TheVariants.{Start, End}
use Rattle.script_words.specs.Reading.{IsRole}
use Rattle.fed_tree.specs.declared.flags.Flag.{Flag}
use Rattle.fed_tree.specs.declared.flags.Flag.TheVariants as flag

-- Each of these has its place in its list as its number, counted from 0. Programs are built with the numbers, so what is new comes last.
abbrev pub all_flags : List Flag
all_flags =
    flag.Hidden
    ∷ flag.Disabled
    ∷ flag.Busy
    ∷ flag.Modal
    ∷ flag.Required
    ∷ flag.Multiselectable
    ∷ flag.LiveAtomic
    ∷ flag.TouchTransparent
    ∷ flag.ClipsChildren
    ∷ flag.Italic
    ∷ flag.ReadOnly
    ∷ flag.ReadOnlySupported
    ∷ flag.TextInput
    ∷ flag.Multiline
    ∷ flag.PasswordInput
    ∷ flag.Dialog
    ∷ flag.ItemLike
    ∷ flag.Graft
    ∷ flag.Selectable
    ∷ flag.SupportsToggle
    ∷ flag.SupportsExpandCollapse
    ∷ flag.SupportsUrl
    ∷ flag.SupportsTextRanges
    ∷ flag.Focusable
    ∷ flag.Clickable
    ∷ flag.SupportsIncrement
    ∷ flag.SupportsDecrement
    ∷ flag.Invocable
    ∷ flag.LabelComesFromValue
    ∷ flag.ContainerWithSelectableChildren
    ∷ flag.ReadOnlyByDefault
    ∷ flag.ReadOnlyOrDisabled
    ∷ flag.HasLabel
    ∷ flag.HasValue
    ∷ []

abbrev pub all_filters : List NamedFilter
all_filters = filter.All ∷ filter.Common ∷ filter.CommonWithRoot ∷ []

abbrev pub all_moves : List Move
all_moves =
    move.ForwardToCharacterStart
    ∷ move.ForwardToCharacterEnd
    ∷ move.BackwardToCharacterStart
    ∷ move.ForwardToFormatStart
    ∷ move.ForwardToFormatEnd
    ∷ move.BackwardToFormatStart
    ∷ move.ForwardToWordStart
    ∷ move.ForwardToWordEnd
    ∷ move.BackwardToWordStart
    ∷ move.ForwardToLineStart
    ∷ move.ForwardToLineEnd
    ∷ move.BackwardToLineStart
    ∷ move.ForwardToParagraphStart
    ∷ move.ForwardToParagraphEnd
    ∷ move.BackwardToParagraphStart
    ∷ move.ForwardToPageStart
    ∷ move.ForwardToPageEnd
    ∷ move.DocumentEnd
    ∷ move.BackwardToPageStart
    ∷ move.DocumentStart
    ∷ []

abbrev pub answer_number : FilterResult → ℕ
answer_number answer.Include = 0
answer_number answer.ExcludeNode = 1
answer_number answer.ExcludeSubtree = 2

-- an index in a text, and whether the end of the run before it is meant where two runs meet
abbrev pub at_index : ℕ → Bool → At
at_index index is_end = record { index = index; side = if is_end then End else Start }

-- a role's number: the 72 with names have their places, and those without follow from 2^16 on, far behind them
abbrev pub role_code : Role → ℕ
role_code role = let number = role_number role in if nat_lt number 72 then number else 65536 + (number - 72)

-- the role with this number, if there is one
abbrev pub IsRoleNumbered : ℕ → Option Role → Type 0
IsRoleNumbered number None = (role : Role) → IsRole role → role_code role ≢ number
IsRoleNumbered number (Some role) = IsRole role × (role_code role ≡ number)

-- The place of the action with this number among all 260: the four with names have their places as numbers, and those without begin at
-- 256. Of a number that is no action's it is past them all.
abbrev pub action_place : ℕ → ℕ
action_place number = if nat_lt number 4 then number else (if nat_lt number 256 then 260 else min (number - 252) 260)
