-- What is proved of events and differences.
use Rattle.std.specs.Prelude.{◌≡◌, ◌≢◌, ℕ, Bool, List, [], ◌∷◌, ◌++◌, take, slice_get, Contains, Option, Some, None, IfSome, ◌↔◌, ◌⊎◌}
use Rattle.std.specs.List.{AllZip, AllPairs}
use Rattle.model.specs.declared.FullNodeId.{FullNodeId}
use Rattle.model.specs.World.{World, IsNode, in_tree}
use Rattle.model.specs.Focus.{IsFocus}
use Rattle.model.specs.Update.{UpdateData, InfoData, IsAccepted, index_for}
use Rattle.model.specs.State.{IsState, with_host}
use Rattle.model.specs.Events.{Event, NodeUpdated, Told, seen_in}
use Rattle.model.specs.Differences.{PlanEvent, Updated, AreOfFocus, AreDifferences, events, told_root}
use Rattle.model.specs.Repeats.{Repeats}
use Rattle.model.specs.Reasons.{Reason, MayPrecede}
use Rattle.model.specs.Run.{CommandData, ToUpdate, ReplyData, Accepted, OutOfMemory, Does, Runs, MayStop, RunsUpTo, AreAlike, WantAlike}
use Rattle.model.specs.Work.{Work, IsWorkOf}
use Rattle.model.specs.Mirror.{Records, Mirrors, MirrorsWhileKept, AreRecordsOf}

-- two worlds have one list of differences
abbrev pub DifferencesAreOne : Type 0
DifferencesAreOne =
    (old new : World) (root : Option FullNodeId) (xs ys : List PlanEvent) → AreDifferences old new root xs
    → AreDifferences old new root ys → xs ≡ ys

-- and two states have one
abbrev pub DifferencesExist : Type 0
DifferencesExist =
    (old new : World) (root : Option FullNodeId) → IsState old → IsState new
    → (differences : List PlanEvent) × AreDifferences old new root differences

-- a difference is in the list exactly if it has a reason
abbrev pub EachHasAReason : Type 0
EachHasAReason =
    (old new : World) (root : Option FullNodeId) (differences : List PlanEvent) → AreDifferences old new root differences
    → (difference : PlanEvent) → Contains differences difference ↔ Reason old new root difference

-- each difference is in the list once, and the groups are in order
abbrev pub EachIsToldInOrder : Type 0
EachIsToldInOrder =
    (old new : World) (root : Option FullNodeId) (differences : List PlanEvent) → AreDifferences old new root differences
    → AllPairs MayPrecede differences

-- if the world is unchanged, nothing is reported without tree info, nor for the root tree
abbrev pub NothingToTell : Type 0
NothingToTell =
    (focus : Option FullNodeId) (w : World) → IsFocus w focus
    → ((info : Option InfoData) → AreDifferences w w (told_root 0 info) []) × ((index : ℕ) → AreDifferences w w (told_root index None) [])

-- but tree info reports the root of another tree
abbrev pub RootIsTold : Type 0
RootIsTold =
    (focus : Option FullNodeId) (w : World) (index : ℕ) (info : InfoData) → IsFocus w focus → index ≢ 0 → IsNode w (in_tree index info.root)
    → AreDifferences w w (told_root index (Some info)) (Updated (in_tree index info.root) ∷ [])

-- if only the host's focus changes, the list is the part for the focus alone
abbrev pub HostChangeTellsFocus : Type 0
HostChangeTellsFocus =
    (w : World) (focused : Bool) (differences : List PlanEvent)
    → AreDifferences w (with_host w focused) None differences ↔ AreOfFocus w (with_host w focused) [] differences

-- the records of a world, changed by its differences to the next world, are the next world's
abbrev pub RecordsFollow : Type 0
RecordsFollow =
    (old new : World) (root : Option FullNodeId) (differences : List PlanEvent) (before after : Records)
    → AreDifferences old new root differences → AreRecordsOf old before → Told Mirrors before (events old new differences) after
    → AreRecordsOf new after

-- a state has records
abbrev pub RecordsAreThere : Type 0
RecordsAreThere = (w : World) → IsState w → (r : Records) × AreRecordsOf w r

-- and each difference can be noted, so that there are records after all of them
abbrev pub RecordsGoOn : Type 0
RecordsGoOn =
    (old new : World) (root : Option FullNodeId) (differences : List PlanEvent) (before : Records)
    → AreDifferences old new root differences → (after : Records) × Told Mirrors before (events old new differences) after

-- and so over a run
abbrev pub RecordsGoOnOverRun : Type 0
RecordsGoOnOverRun =
    (old new : World) (commands : List CommandData) (told : List Event) (replies : List ReplyData) (before : Records)
    → Runs old commands new told replies → (after : Records) × Told Mirrors before told after

-- the records that follow each event of a run are those of the world that it comes to
abbrev pub RecordsFollowRun : Type 0
RecordsFollowRun =
    (old new : World) (commands : List CommandData) (told : List Event) (replies : List ReplyData) (before after : Records)
    → Runs old commands new told replies → AreRecordsOf old before → Told Mirrors before told after → AreRecordsOf new after

-- A mirror whose allocations may fail has the records of the world that a run comes to, or none.
abbrev pub KeptRecordsFollowRun : Type 0
KeptRecordsFollowRun =
    (old new : World) (commands : List CommandData) (told : List Event) (replies : List ReplyData) (before : Records)
    (after : Option Records)
    → Runs old commands new told replies → AreRecordsOf old before → Told MirrorsWhileKept (Some before) told after
    → IfSome after (AreRecordsOf new)

-- Two runs of the same commands, in which memory ran out at the same ones, end in the same world, report the same, and reply alike.
abbrev pub RunsAreOne : Type 0
RunsAreOne =
    (old v w : World) (commands : List CommandData) (told heard : List Event) (replies answers : List ReplyData)
    → Runs old commands v told replies → Runs old commands w heard answers → AllZip WantAlike replies answers
    → (v ≡ w) × (told ≡ heard) × AllZip AreAlike replies answers

-- each command can be carried out on a state, as long as memory doesn't run out
abbrev pub CommandIsDone : Type 0
CommandIsDone =
    (old : World) (command : CommandData) → IsState old
    → (new : World) × (told : List Event) × (reply : ReplyData) × Does old command new told reply × (reply ≢ OutOfMemory)

-- and each list of commands has a run
abbrev pub RunIsThere : Type 0
RunIsThere =
    (old : World) (commands : List CommandData) → IsState old
    → (new : World) × (told : List Event) × (replies : List ReplyData) × Runs old commands new told replies
    × ¬ (Contains replies OutOfMemory)

-- a run leaves a state
abbrev pub RunLeavesState : Type 0
RunLeavesState =
    (old new : World) (commands : List CommandData) (told : List Event) (replies : List ReplyData) → Runs old commands new told replies
    → IsState old → IsState new

-- an update that repeats what a state has changes nothing, and reports nothing if it has no tree info or is for the root tree
abbrev pub RepeatTellsNothing : Type 0
RepeatTellsNothing =
    (w : World) (u : UpdateData) → IsState w → Repeats w u → (u.info ≡ None) ⊎ (index_for w u.name ≡ 0)
    → Does w (ToUpdate u) w [] Accepted

-- one for another tree that has tree info reports that tree's root
abbrev pub RepeatTellsRoot : Type 0
RepeatTellsRoot =
    (w : World) (u : UpdateData) (info : InfoData) → IsState w → Repeats w u → u.info ≡ Some info → index_for w u.name ≢ 0
    → Does w (ToUpdate u) w
    (NodeUpdated (seen_in w (in_tree (index_for w u.name) info.root)) (seen_in w (in_tree (index_for w u.name) info.root))
    ∷ []) Accepted

-- The effects of a stopped run are the beginning of those of the whole run.
abbrev pub StoppedRunBegins : Type 0
StoppedRunBegins =
    (old new : World) (commands : List CommandData) (done : ℕ) (told : List Event) (replies : List ReplyData)
    → Runs old commands new told replies → MayStop done commands
    → (at : World) × (first rest : List Event) × RunsUpTo done old commands at first (take done replies) × (told ≡ first ++ rest)

-- If a run stops once it has started, no change is lost: the next command would have left the world unchanged and reported nothing.
abbrev pub StopLosesNoChange : Type 0
StopLosesNoChange =
    (old at new : World) (commands : List CommandData) (done : ℕ) (told heard : List Event) (replies : List ReplyData)
    (next : CommandData) (reply : ReplyData)
    → RunsUpTo done old commands at told replies → done ≢ 0 → slice_get commands done ≡ Some next → Does at next new heard reply
    → (new ≡ at) × (heard ≡ [])

-- there is only one set of records of a world
abbrev pub RecordsAreOne : Type 0
RecordsAreOne = (w : World) (r s : Records) → AreRecordsOf w r → AreRecordsOf w s → r ≡ s

-- an update has one set of numbers
abbrev pub WorkIsOne : Type 0
WorkIsOne = (old new : World) (u : UpdateData) (a b : Work) → IsState new → IsWorkOf old u new a → IsWorkOf old u new b → a ≡ b

-- and an accepted update of a state has them
abbrev pub WorkIsThere : Type 0
WorkIsThere = (old new : World) (u : UpdateData) → IsState old → IsAccepted old u new → (work : Work) × IsWorkOf old u new work
