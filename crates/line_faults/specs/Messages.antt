-- The words of a message about a bad line.
use Rattle.std.specs.Prelude.{ℕ, ◌-◌, ◌≡◌, nat_lt, nat_le, min, List, [], ◌∷◌, ◌++◌, codes, map, length, take, drop, Option, Some, None, ◌&&◌, if◌then◌else◌}
use Rattle.std.specs.Borrow.{Bor}
use Rattle.std.specs.Fmt.{decimal}
use Rattle.std.specs.Option.{option_map_or}
use Rattle.line_text.specs.Columns.{column_after}
use Rattle.line_text.specs.Nearness.{IsNearest}
use Rattle.line_text.specs.Shown.{shown}
use Rattle.role_names.specs.Names.{number_named}
use Rattle.line_faults.specs.Known.{field_names, role_names}
use Rattle.line_faults.specs.declared.reasons.FieldSet.{FieldSet}
use Rattle.line_faults.specs.declared.reasons.LineFault.{LineFault}
use Rattle.line_faults.specs.declared.reasons.Form.{Form}
use Rattle.line_faults.specs.declared.reasons.Form.TheVariants as form
use Rattle.line_faults.specs.declared.reasons.NumberRange.{NumberRange}
use Rattle.line_faults.specs.declared.reasons.NumberRange.TheVariants as range
use Rattle.line_faults.specs.declared.reasons.OtherReason.{OtherReason}
use Rattle.line_faults.specs.declared.reasons.OtherReason.TheVariants as other
use Rattle.line_faults.specs.declared.reasons.Reason.{Reason}
use Rattle.line_faults.specs.declared.reasons.Reason.TheVariants as reason
use Rattle.line_faults.specs.declared.reasons.WordSet.{WordSet}
use Rattle.line_faults.specs.declared.reasons.WordSet.TheVariants as words

-- the form of a value of several parts
abbrev pub form_text : Form → List ℕ
form_text form.Rect = codes "LEFT,TOP,RIGHT,BOTTOM"
form_text form.Pair = codes "X,Y"
form_text form.Color = codes "RED,GREEN,BLUE,OPACITY"
form_text form.Decoration = codes "STYLE,RED,GREEN,BLUE,OPACITY"
form_text form.Selection = codes "RUN:CHARACTER,RUN:CHARACTER"
form_text form.Position = codes "RUN:CHARACTER"

-- a range of numbers
abbrev pub range_text : NumberRange → List ℕ
range_text range.Byte = codes "0 to 255"
range_text range.Short = codes "0 to 65535"
range_text range.Narrow = codes "0 to 4294967295"
range_text range.Count = codes "0 to 18446744073709551615"
range_text range.Units = codes "-2147483648 to 2147483647"
range_text range.Signed = codes "-9223372036854775808 to 9223372036854775807"

-- what the words of a list are called
abbrev pub set_text : WordSet → List ℕ
set_text words.Commands = codes "command"
set_text words.HostStates = codes "state of the host"
set_text words.Filters = codes "filter"
set_text words.Sides = codes "side"
set_text words.Moves = codes "movement"
set_text words.Actions = codes "action"
set_text words.Toggles = codes "state of a toggle"
set_text words.Truths = codes "truth value"
set_text words.Lives = codes "live setting"
set_text words.Orientations = codes "orientation"
set_text words.SortDirections = codes "sort direction"
set_text words.Currents = codes "kind of current item"
set_text words.Popups = codes "kind of popup"
set_text words.TextDirections = codes "text direction"
set_text words.TextAligns = codes "alignment"
set_text words.VerticalOffsets = codes "vertical offset"
set_text words.DecorationStyles = codes "style of line"

-- a reason without parts of its own
abbrev pub plain_text : OtherReason → List ℕ
plain_text other.NotUtf8 = codes "not UTF-8"
plain_text other.EndsInside = codes "the input ends inside an update"
plain_text other.Outside = codes "outside of an update:"
plain_text other.Inside = codes "inside an update:"
plain_text other.Space = codes "a space too many"
plain_text other.EndsEarly = codes "the line ends early"
plain_text other.TooMany = codes "a word too many:"
plain_text other.NoNumber = codes "no number:"
plain_text other.EmptyNumber = codes "a number is missing"
plain_text other.NoTree = codes "no tree:"
plain_text other.NoName = codes "a field without a name"
plain_text other.NoValue = codes "no value of"
plain_text other.FlagWithValue = codes "a value of the flag"
plain_text other.GivenTwice = codes "given twice:"
plain_text other.NoQuote = codes "no quote before"
plain_text other.OpenQuote = codes "no quote after the text"
plain_text other.Escape = codes "a backslash before another character than \", \\ and n"
plain_text other.AfterQuote = codes "no space before"
plain_text other.NoFocus = codes "no field \"focus\""
plain_text other.NoRoot = codes "a toolkit without the field \"root\""
plain_text (other.UnknownWord what) = codes "no word"
plain_text (other.OutOfRange what) = codes "out of range:"
plain_text (other.Parts what) = codes "not of its form:"
plain_text other.Unclear = codes "bad line"

-- a reason, up to the word that it is about
abbrev pub other_text : OtherReason → List ℕ
other_text (other.UnknownWord set) = codes "no " ++ set_text set
other_text (other.OutOfRange bounds) = codes "not within " ++ range_text bounds ++ codes ":"
other_text (other.Parts parts) = codes "not of the form " ++ form_text parts ++ codes ":"
other_text plain = plain_text plain

abbrev pub reason_text : Reason → List ℕ
reason_text (reason.UnknownField set) = codes "no field"
reason_text reason.UnknownRole = codes "no role"
reason_text (reason.Other other) = other_text other

-- the word at fault, if it is one, and not too long to be shown
abbrev pub word_of : List ℕ → LineFault → List ℕ
word_of line fault =
    if nat_lt fault.start fault.end && nat_le fault.end (length line) && nat_le (fault.end - fault.start) 200
    then take (fault.end - fault.start) (drop fault.start line) else []

abbrev pub word_text : List ℕ → List ℕ
word_text [] = []
word_text (byte ∷ more) = codes " \"" ++ shown (byte ∷ more) ++ codes "\""

-- the word that may be meant
abbrev pub near_text : Option (List ℕ) → List ℕ
near_text None = []
near_text (Some name) = codes "; did you mean \"" ++ name ++ codes "\"?"

-- the number of the role that the word names, if the fault is an unknown role and the role is sent by a number
abbrev pub number_meant : Reason → List ℕ → Option ℕ
number_meant reason.UnknownRole word = number_named word
number_meant why word = None

-- how a script writes the role with this number
abbrev pub written_text : ℕ → List ℕ
written_text number = codes "; in a script it is Other(" ++ decimal number ++ codes ")"

-- how a script writes the role that the word names, if it is sent by a number, and else the word that may be meant
abbrev pub hint_text : Reason → List ℕ → Option (List ℕ) → List ℕ
hint_text why word near = option_map_or written_text (number_meant why word) (near_text near)

-- the column of the fault, in characters from 1
abbrev pub column_of : List ℕ → LineFault → ℕ
column_of line fault = column_after (take (min fault.start (length line)) line)

-- the end of a message
abbrev pub end_text : Reason → List ℕ → Option (List ℕ) → List ℕ
end_text why word near = word_text word ++ hint_text why word near ++ codes "\n"

-- the message about a word, in the line with this number and at this column
abbrev pub message_text : ℕ → ℕ → Reason → List ℕ → Option (List ℕ) → List ℕ
message_text number column why word near =
    codes "line " ++ decimal number ++ codes ", column " ++ decimal column ++ codes ": " ++ reason_text why ++ end_text why word near

-- the message about a fault of the line with this number
abbrev pub fault_line : ℕ → List ℕ → LineFault → Option (List ℕ) → List ℕ
fault_line number line fault near = message_text number (column_of line fault) fault.reason (word_of line fault) near

-- these texts are borrowed somewhere, and this is the nearest of them to the word
abbrev pub IsNearestOf : List ℕ → List (List ℕ) → Option (List ℕ) → Type 0
IsNearestOf word names near = (table : List (Bor (List ℕ))) × (map (λ name. name.now) table ≡ names) × IsNearest word table near

-- what is suggested for an unknown field and an unknown role is the nearest that there is
pub record Suggests (line : List ℕ) (fault : LineFault) (near : Option (List ℕ)) : Type 0 where
  pub field : (set : FieldSet) → fault.reason ≡ reason.UnknownField set → IsNearestOf (word_of line fault) (field_names set) near
  pub role : fault.reason ≡ reason.UnknownRole → IsNearestOf (word_of line fault) role_names near
