-- The states of a page: what made each, and what came of it.
use Rattle.std.specs.Prelude.{ℕ, ◌+◌, ◌-◌, ◌^◌, ◌==◌, ◌&&◌, min, nat_lt, List, [], ◌∷◌, ◌++◌, length, codes, Bool, Option, Some, None, Result, Ok, Err, if◌then◌else◌}
use Rattle.std.specs.Fmt.{decimal}
use Rattle.html.specs.Escaped.{escaped}
use Rattle.phrases.specs.States.{same_flag}
use Rattle.session.specs.declared.commands.Command.{Command}
use Rattle.session.specs.declared.commands.Command.TheVariants as command
use Rattle.session.specs.declared.commands.Reply.{Reply}
use Rattle.session.specs.declared.commands.Reply.TheVariants as reply
use Rattle.tree_changes.specs.RefusalTexts.{refusal_text}
use Rattle.page.specs.declared.tally.Tally.{Tally}
use Rattle.page.specs.declared.sections.Cause.{Cause}
use Rattle.page.specs.declared.sections.Cause.TheVariants.{Update, HostOn, HostOff}
use Rattle.page.specs.declared.sections.Outcome.{Outcome}
use Rattle.page.specs.declared.sections.Outcome.TheVariants.{Begun, Changed, Same, Refused}
use Rattle.page.specs.declared.sections.Summary.{Summary}
use Rattle.page.specs.declared.sections.Titled.{Titled}
use Rattle.script_words.specs.declared.stops.Stop.{Stop}
use Rattle.script_words.specs.declared.stops.Stop.TheVariants as stop

-- one more, up to the greatest number that is counted
abbrev pub counted : ℕ → ℕ
counted n = min (n + 1) (2 ^ 64 - 1)

-- the number of the state after these
abbrev pub next_number : List Titled → ℕ
next_number states = counted (length states)

-- there were no events
abbrev pub is_quiet : Tally → Bool
is_quiet tally = tally.added == 0 && (tally.updated == 0 && (tally.moved == 0 && tally.removed == 0))

-- ---- why there is a state

-- whether the host window gets the focus or loses it
abbrev pub host_cause : Bool → Cause
host_cause focused = if focused then HostOn else HostOff

-- The cause of the state that a command makes after so many updates. A query makes none, nor does a host window whose focus stays.
abbrev pub cause_of : Bool → ℕ → Command → Option Cause
cause_of host updates (command.Update u) = Some (Update (counted updates))
cause_of host updates (command.HostFocus focused) = if same_flag focused host then None else Some (host_cause focused)
cause_of host updates (command.Query q) = None

-- the number of updates after a state with this cause
abbrev pub updates_after : Cause → ℕ → ℕ
updates_after (Update number) updates = number
updates_after HostOn updates = updates
updates_after HostOff updates = updates

abbrev pub update_text : ℕ → List ℕ
update_text number = codes "Update " ++ decimal number

abbrev pub cause_text : Cause → List ℕ
cause_text (Update number) = update_text number
cause_text HostOn = codes "The host window gets the focus"
cause_text HostOff = codes "The host window loses the focus"

-- links from a state to the one after it, if there is one, and to the one before it
abbrev pub next_link : ℕ → List ℕ
next_link number =
    if nat_lt 1 number then codes "<a class=\"next\" rel=\"next\" href=\"#state-" ++ decimal number ++ codes "\">Next</a></section>\n"
    else []

abbrev pub previous_link : ℕ → List ℕ
previous_link before =
    if nat_lt 0 before then codes "<a class=\"prev\" rel=\"prev\" href=\"#state-" ++ decimal before ++ codes "\">Previous</a>\n" else []

abbrev pub section_begun : ℕ → List ℕ
section_begun number = codes "<section id=\"state-" ++ decimal number ++ codes "\">\n"

-- a title, which may run from right to left
abbrev pub some_title : List ℕ → List ℕ
some_title title = codes ": <bdi>" ++ escaped title ++ codes "</bdi>"

-- what a state is called after its number: by its title, if it has one
abbrev pub title_text : List ℕ → List ℕ
title_text [] = []
title_text (byte ∷ bytes) = some_title (byte ∷ bytes)

abbrev pub state_name : ℕ → List ℕ → List ℕ
state_name number title = codes "State " ++ decimal number ++ title_text title

abbrev pub heading_line : ℕ → List ℕ → List ℕ
heading_line number title = codes "<h2>" ++ state_name number title ++ codes "</h2>\n"

abbrev pub heading : ℕ → List ℕ → List ℕ
heading number title = section_begun number ++ heading_line number title

abbrev pub cause_line : Cause → List ℕ
cause_line cause = codes "<p class=\"cause\">" ++ cause_text cause ++ codes "</p>\n"

-- the head of a state with this number and title, after the end of the one before it
abbrev pub state_begun : ℕ → List ℕ → Cause → List ℕ
state_begun number title cause = next_link number ++ heading number title ++ cause_line cause ++ previous_link (number - 1)

-- ---- what came of it

-- a step without a refusal has changed something if there were events
abbrev pub outcome_of_events : Tally → Outcome
outcome_of_events tally = if is_quiet tally then Same else Changed

abbrev pub outcome_of : Reply → Tally → Outcome
outcome_of (reply.Refused why) tally = Refused why
outcome_of _ tally = outcome_of_events tally

-- that nothing has changed since the state with this number
abbrev pub same_text : ℕ → List ℕ
same_text before =
    codes "<p class=\"note\">Nothing has changed since <a href=\"#state-" ++ decimal before ++ codes "\">the state before</a>.</p>\n"

abbrev pub outcome_text : ℕ → Outcome → List ℕ
outcome_text number Begun = codes "<p class=\"note\">The tree begins.</p>\n"
outcome_text number Changed = []
outcome_text number Same = same_text (number - 1)
outcome_text number (Refused why) = codes "<p class=\"refused\">Refused: " ++ refusal_text why ++ codes ". Nothing has changed.</p>\n"

-- ---- the end of a page

abbrev pub stop_begun : ℕ → List ℕ
stop_begun line = codes "<p class=\"refused\">Line " ++ decimal line ++ codes ": "

-- why the script stopped at a line
abbrev pub reason_text : ℕ → List ℕ → List ℕ
reason_text line reason = stop_begun line ++ reason ++ codes "</p>\n"

-- what is wrong in a bad line
abbrev pub fault_text : List ℕ → List ℕ
fault_text message = codes "<p class=\"refused\">The script stops at " ++ escaped message ++ codes "</p>\n"

abbrev pub why_text : Stop → ℕ → List ℕ → List ℕ
why_text stop.BadLine line message = fault_text message
why_text stop.Memory line message = reason_text line (codes "no memory. The script stops here.")
why_text stop.ReadFault line message = reason_text line (codes "the next line can't be read.")
why_text stop.WriteFault line message = reason_text line (codes "the page can't be written.")

-- why the script stopped before its end, if it did
abbrev pub stop_text : Result Unit Stop → ℕ → List ℕ → List ℕ
stop_text (Ok done) line message = []
stop_text (Err why) line message = why_text why line message

abbrev pub em_begun : List ℕ → List ℕ
em_begun class = codes " <em class=\"" ++ class ++ codes "\">"

abbrev pub some_text : List ℕ → List ℕ → ℕ → List ℕ
some_text class what count = em_begun class ++ decimal count ++ codes " " ++ what ++ codes "</em>"

-- a count, unless it is 0
abbrev pub count_text : List ℕ → List ℕ → ℕ → List ℕ
count_text class what count = if count == 0 then [] else some_text class what count

abbrev pub tally_text : Tally → List ℕ
tally_text tally =
    count_text (codes "a") (codes "added") tally.added ++ count_text (codes "u") (codes "updated") tally.updated
    ++ count_text (codes "r") (codes "removed") tally.removed
    ++ count_text (codes "f") (codes "focus") tally.moved

-- what came of a state, in short
abbrev pub outcome_word : Outcome → Tally → List ℕ
outcome_word Begun tally = codes " begun"
outcome_word Changed tally = tally_text tally
outcome_word Same tally = codes " unchanged"
outcome_word (Refused why) tally = codes " <em class=\"r\">refused</em>"

abbrev pub state_link_begun : ℕ → List ℕ
state_link_begun number = codes "<li><a href=\"#state-" ++ decimal number ++ codes "\">"

abbrev pub state_word : ℕ → List ℕ → List ℕ
state_word number title = state_name number title ++ codes "</a> <small>"

abbrev pub state_link : ℕ → List ℕ → List ℕ
state_link number title = state_link_begun number ++ state_word number title

-- what made a state, and what came of it, in short
abbrev pub summary_text : Summary → List ℕ
summary_text it = cause_text it.cause ++ codes "</small>" ++ outcome_word it.outcome it.tally

-- a state's item in the list of all, as a link to it
abbrev pub item_text : ℕ → Titled → List ℕ
item_text number it = state_link number it.title.items ++ summary_text it.summary ++ codes "</li>\n"

-- the items of states that are counted from a number
abbrev pub items_from : ℕ → List Titled → List ℕ
items_from number [] = []
items_from number (it ∷ its) = item_text number it ++ items_from (number + 1) its

-- the last state ends, if there is one
abbrev pub section_end : List Titled → List ℕ
section_end [] = []
section_end (it ∷ its) = codes "</section>\n"

abbrev pub list_head : List ℕ
list_head = codes "</main>\n<nav id=\"states\" aria-label=\"States\"><h2>States</h2><ol>\n"

abbrev pub page_foot : List ℕ
page_foot = codes "</ol></nav>\n</body>\n</html>\n"

-- the end of a page: why the script stopped, if it did, and the list of all states
abbrev pub page_end : List Titled → Result Unit Stop → ℕ → List ℕ → List ℕ
page_end states ended line message = section_end states ++ stop_text ended line message ++ list_head ++ items_from 1 states ++ page_foot
