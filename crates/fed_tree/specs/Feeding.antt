-- What becomes of lines that are fed.
use Rattle.std.specs.Prelude.{◌≡◌, ◌≢◌, ◌⊎◌, ◌++◌, ℕ, List, [], ◌∷◌, map, length, Option, Some, None, IsSome, IfSome, Result, Ok, Err, ⊤}
use Rattle.std.specs.Global.{Vec}
use Rattle.std.specs.List.{FoldsTo}
use Rattle.model.specs.Events.{Event as ModelEvent}
use Rattle.script_lines.specs.declared.reader.ScriptCommand.{ScriptCommand}
use Rattle.script_words.specs.declared.stops.Stop.TheVariants.{BadLine}
use Rattle.tree_changes.specs.declared.error.UpdateError.{UpdateError}
use Rattle.tree_changes.specs.declared.error.UpdateError.TheVariants as error
use Rattle.script_lines.specs.ScriptReading.{Place, ReadsTo}
use Rattle.fed_tree.specs.Carried.{CarriesOut}
use Rattle.fed_tree.specs.Events.{record_of}
use Rattle.fed_tree.specs.Fed.{Fed}
use Rattle.fed_tree.specs.declared.events.Event.{Event}
use Rattle.fed_tree.specs.declared.feeding.FeedError.{FeedError}
use Rattle.fed_tree.specs.declared.feeding.FeedError.TheVariants as feed
use Rattle.fed_tree.specs.declared.fed_lines.Unread.{Unread}
use Rattle.fed_tree.specs.declared.fed_lines.Unread.TheVariants as unread
use Rattle.fed_tree.specs.declared.stage.Stage.{Stage}

-- ---- reading

-- before the first line
abbrev pub start : List ℕ → Place
start lines = record { left = lines; begun = None; comment = []; number = 0 }

-- the next command is read
abbrev pub ReadsNext : Place → ScriptCommand → Place → Type 0
ReadsNext at command next = ReadsTo at (Ok (Some command)) next

-- these are the first commands of the lines, up to this place
abbrev pub BeginWith : List ℕ → List ScriptCommand → Place → Type 0
BeginWith lines commands at = FoldsTo ReadsNext (start lines) commands at

-- the lines say these commands, and nothing else
abbrev pub Say : List ℕ → List ScriptCommand → Type 0
Say lines commands = (at : Place) × (end : Place) × BeginWith lines commands at × ReadsTo at (Ok None) end

-- after some commands there is a bad line, with this number
abbrev pub HasBadLine : List ℕ → ℕ → Type 0
HasBadLine lines number =
    (before : List ScriptCommand) × (at : Place) × (bad : Place) × BeginWith lines before at × ReadsTo at (Err BadLine) bad
    × (number ≡ bad.number)

abbrev pub ReadsCommands : List ℕ → Result (Vec ScriptCommand) Unread → Type 0
ReadsCommands lines (Ok commands) = Say lines commands.items
ReadsCommands lines (Err (unread.BadLine number)) = HasBadLine lines number
ReadsCommands lines (Err unread.Memory) = ⊤

-- ---- carrying out

-- a command is carried out, and its events come after those before it
abbrev pub GoesOn : Stage × List ModelEvent → ScriptCommand → Stage × List ModelEvent → Type 0
GoesOn a c b = (told : List ModelEvent) × CarriesOut a.0 c (Ok tt) b.0 told × (b.1 ≡ a.1 ++ told)

-- these commands are carried out in turn, with these events in all
abbrev pub CarryOut : Stage → List ScriptCommand → Stage → List ModelEvent → Type 0
CarryOut old commands new told = FoldsTo GoesOn (old, []) commands (new, told)

-- the events that are kept are these, if none was lost
abbrev pub AreKept : List ModelEvent → Option (List Event) → Type 0
AreKept told events = IfSome events (λ kept. kept ≡ map record_of told)

-- where an update is refused, it is the next command
abbrev pub IsRefusedNext : List ScriptCommand → List ScriptCommand → Stage → UpdateError → Type 0
IsRefusedNext commands done stage why =
    (c : ScriptCommand) × (others : List ScriptCommand) × (commands ≡ done ++ c ∷ others) × CarriesOut stage c (Err why) stage []

-- all are carried out; or a first part of them, up to an update that is refused for another reason than lack of memory, or to where memory
-- ran out
abbrev pub EndsAs : List ScriptCommand → List ScriptCommand → Result Unit FeedError → Stage → Option (List Event) → Type 0
EndsAs commands done (Ok ended) stage events = (done ≡ commands) × IsSome events
EndsAs commands done (Err (feed.BadLine number)) stage events = ⊥
EndsAs commands done (Err (feed.Refused count why)) stage events =
    (count ≡ length done) × IsSome events × (why ≢ error.Memory) × IsRefusedNext commands done stage why
EndsAs commands done (Err (feed.Memory count)) stage events =
    (count ≡ length done) × ((others : List ScriptCommand) × (commands ≡ done ++ others))

-- of these commands some are carried out, with these events, and then it ended so
pub record CarriesOutAll (old : Stage) (commands : List ScriptCommand) (result : Result Unit FeedError) (new : Stage)
    (events : Option (List Event)) : Type 0 where
  pub done : List ScriptCommand
  pub told : List ModelEvent
  pub runs : CarryOut old done new told
  pub kept : AreKept told events
  pub ended : EndsAs commands done result new events

-- ---- feeding

abbrev pub stage_of : Fed → Stage
stage_of fed = record { tree = fed.world; is_host_focused = fed.host }

-- no command is carried out, and nothing is told
abbrev pub without_events : Fed → Fed
without_events fed = record fed { events = Some [] }

-- the commands that the lines say are carried out, as far as it went; an update that is begun stays so
abbrev pub CarriesOutLines : Fed → List ℕ → Result Unit FeedError → Fed → Type 0
CarriesOutLines old lines result new =
    (commands : List ScriptCommand) × Say lines commands × CarriesOutAll (stage_of old) commands result (stage_of new) new.events
    × (new.begun ≡ old.begun)

-- All lines are read first: where one is bad nothing is carried out, and where there is no memory to read them neither.
abbrev pub Feeds : Fed → List ℕ → Result Unit FeedError → Fed → Type 0
Feeds old lines (Ok done) new = CarriesOutLines old lines (Ok done) new
Feeds old lines (Err (feed.BadLine number)) new = HasBadLine lines number × (new ≡ without_events old)
Feeds old lines (Err (feed.Refused count why)) new = CarriesOutLines old lines (Err (feed.Refused count why)) new
Feeds old lines (Err (feed.Memory count)) new =
    ((count ≡ 0) × (new ≡ without_events old)) ⊎ CarriesOutLines old lines (Err (feed.Memory count)) new
