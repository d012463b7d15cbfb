-- What a page tells of each event, and what is kept of it.
use Rattle.std.specs.Prelude.{◌≡◌, ℕ, List, [], ◌++◌, codes, Option, Some, None, IfSome, Ok, if◌then◌else◌}
use Rattle.std.specs.BTreeMap.{BTreeMap, Updates, IsEmpty}
use Rattle.std.specs.Io.KnownBytes.{Appends}
use Rattle.html.specs.Escaped.{element_text}
use Rattle.model.specs.declared.FullNodeId.{FullNodeId}
use Rattle.model.specs.Events.{Event, NodeAdded, NodeUpdated, FocusMoved, NodeRemoved, Seen, Told}
use Rattle.model.specs.FullIds.{full_cmp}
use Rattle.model.specs.World.{World}
use Rattle.session.specs.Replied.{IsStep}
use Rattle.session.specs.declared.commands.Command.{Command}
use Rattle.session.specs.declared.commands.Reply.{Reply}
use Rattle.views.specs.Nodes.{seen_node}
use Rattle.page_states.specs.declared.found.Facts.{Facts}
use Rattle.page_states.specs.declared.found.View.{View}
use Rattle.page_states.specs.declared.marks.Mark.{Mark}
use Rattle.page_states.specs.declared.marks.Mark.TheVariants.{Added, Updated}
use Rattle.page.specs.declared.tally.Tally.{Tally}
use Rattle.page.specs.declared.sections.Outcome.{Outcome}
use Rattle.page_states.specs.Differences.{TellsDifferences}
use Rattle.page_states.specs.Found.{AreReady, IsOfStep, IsRight, view_seen}
use Rattle.page_states.specs.Named.{name_text, linked_text}
use Rattle.page_states.specs.Said.{arrow}
use Rattle.page.specs.States.{counted, is_quiet, outcome_of}

abbrev pub Bytes : Type 0
Bytes = Option (List ℕ)

abbrev pub Marked : Type 0
Marked = BTreeMap FullNodeId Mark

-- what was found out about the nodes of a state, if anything
abbrev pub Known : Type 0
Known = Option (BTreeMap FullNodeId Facts)

-- what is written of a step's events so far, how many there were of each kind, and the marks of the nodes that they added and updated
pub record Report : Type 0 where
  pub written : Bytes
  pub tally : Tally
  pub marks : Marked

abbrev pub report_of : Bytes → Tally → Marked → Report
report_of written tally marks = record { written = written; tally = tally; marks = marks }

-- the list of events begins with the first one
abbrev pub list_begun : Tally → List ℕ
list_begun tally = if is_quiet tally then codes "<details class=\"events\" open><summary>Events</summary><ol>\n" else []

abbrev pub list_ended : Tally → List ℕ
list_ended tally = if is_quiet tally then [] else codes "</ol></details>\n"

-- the beginning of an event's item, with the word for it
abbrev pub item_begun : Tally → List ℕ → List ℕ → List ℕ
item_begun tally class word = list_begun tally ++ codes "<li>" ++ element_text (codes "em") class word ++ codes " "

abbrev pub item_ended : List ℕ
item_ended = codes "</li>\n"

-- the focus before and after it has moved, if there is one
abbrev pub old_focus : Option View → List ℕ
old_focus None = codes "<i>none</i>"
old_focus (Some v) = name_text v

abbrev pub new_focus : ℕ → Option View → List ℕ
new_focus state None = codes "<i>none</i>"
new_focus state (Some v) = linked_text state v

-- a node was added: its name is told, and it is marked
pub record ReportsAdded (state : ℕ) (s : Report) (new : Seen) (t : Report) : Type 0 where
  pub node : View
  pub seen : seen_node node.node ≡ new
  pub right : IsRight node
  pub told : Appends s.written t.written (item_begun s.tally (codes "a") (codes "added") ++ linked_text state node ++ item_ended)
  pub tally : t.tally ≡ record s.tally { added = counted s.tally.added }
  pub marks : Updates full_cmp s.marks t.marks new.id (Some Added)

-- the name of a node that was updated, and how it differs
pub record TellsUpdated (state : ℕ) (tally : Tally) (old new : View) (before after : Bytes) : Type 0 where
  pub named : Bytes
  pub names : Appends before named (item_begun tally (codes "u") (codes "updated") ++ linked_text state new)
  pub compared : Bytes
  pub differs : TellsDifferences old new named compared
  pub ends : Appends compared after item_ended

-- a node was updated: that is told, and it is marked
pub record ReportsUpdated (state : ℕ) (s : Report) (old new : Seen) (t : Report) : Type 0 where
  pub node : View
  pub before : View
  pub seen : seen_node node.node ≡ new
  pub seen_before : seen_node before.node ≡ old
  pub right : IsRight node
  pub right_before : IsRight before
  pub told : TellsUpdated state s.tally before node s.written t.written
  pub tally : t.tally ≡ record s.tally { updated = counted s.tally.updated }
  pub marks : Updates full_cmp s.marks t.marks new.id (Some Updated)

-- the focus has moved: from where and to where is told
pub record ReportsFocus (state : ℕ) (s : Report) (old new : Option Seen) (t : Report) : Type 0 where
  pub node : Option View
  pub before : Option View
  pub seen : view_seen node ≡ new
  pub seen_before : view_seen before ≡ old
  pub right : IfSome node IsRight
  pub right_before : IfSome before IsRight
  pub told : Appends s.written t.written (item_begun s.tally (codes "f") (codes "focus") ++ old_focus before ++ arrow
      ++ new_focus state node ++ item_ended)
  pub tally : t.tally ≡ record s.tally { moved = counted s.tally.moved }
  pub marks : t.marks ≡ s.marks

-- a node was removed: its name is told
pub record ReportsRemoved (s : Report) (old : Seen) (t : Report) : Type 0 where
  pub node : View
  pub seen : seen_node node.node ≡ old
  pub right : IsRight node
  pub told : Appends s.written t.written (item_begun s.tally (codes "r") (codes "removed") ++ name_text node ++ item_ended)
  pub tally : t.tally ≡ record s.tally { removed = counted s.tally.removed }
  pub marks : t.marks ≡ s.marks

abbrev pub Reports : ℕ → Report → Event → Report → Type 0
Reports state s (NodeAdded new) t = ReportsAdded state s new t
Reports state s (NodeUpdated old new) t = ReportsUpdated state s old new t
Reports state s (FocusMoved old new) t = ReportsFocus state s old new t
Reports state s (NodeRemoved old) t = ReportsRemoved s old t

-- an event of a step is told, and what was found out about the worlds before and after the step stays right
abbrev pub ReportsRightly : ℕ → Report → Known × Known → Event → Report → Known × Known → Type 0
ReportsRightly state s found e t kept = (old new : World) → IsOfStep old new e → AreReady old new found.0 found.1
    → Reports state s e t × AreReady old new kept.0 kept.1

-- no event yet
abbrev pub no_tally : Tally
no_tally = record { added = 0; updated = 0; moved = 0; removed = 0 }

abbrev pub no_events : Bytes → Marked → Report
no_events before marks = report_of before no_tally marks

-- A command takes a step of the session: its events are told in order, and no others, and this is what came of it.
pub record ReportsStep (state : ℕ) (old : World) (c : Command) (new : World) (before : Bytes) (outcome : Outcome) (tally : Tally)
    (marks : Marked) (after : Bytes) : Type 0 where
  pub events : List Event
  pub reply : Reply
  pub step : IsStep old c new events (Ok reply)
  pub unmarked : Marked
  pub empty : IsEmpty unmarked
  pub told : Report
  pub tells : Told (Reports state) (no_events before unmarked) events told
  pub counted : tally ≡ told.tally
  pub marked : marks ≡ told.marks
  pub ends : Appends told.written after (list_ended told.tally)
  pub comes : outcome ≡ outcome_of reply told.tally
