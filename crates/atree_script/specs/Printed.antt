-- What is printed of an event.
use Rattle.std.specs.Prelude.{ℕ, List, ◌++◌, codes, Option, Some, None}
use Rattle.std.specs.Fmt.{decimal}
use Rattle.model.specs.declared.FullNodeId.{FullNodeId}
use Rattle.model.specs.Events.{Event, NodeAdded, NodeUpdated, FocusMoved, NodeRemoved, Seen}

-- a node's id, as 1:2
abbrev pub id_text : FullNodeId → List ℕ
id_text id = decimal id.tree ++ codes ":" ++ decimal id.node.0

abbrev pub shown_or_dash : Option FullNodeId → List ℕ
shown_or_dash None = codes "-"
shown_or_dash (Some id) = id_text id

abbrev pub seen_id : Option Seen → Option FullNodeId
seen_id None = None
seen_id (Some s) = Some s.id

-- a line with the old and the new focus
abbrev pub focus_line : Option FullNodeId → Option FullNodeId → List ℕ
focus_line old new = codes "focus " ++ shown_or_dash old ++ codes " " ++ shown_or_dash new ++ codes "\n"

abbrev pub event_line : Event → List ℕ
event_line (NodeAdded new) = codes "added " ++ id_text new.id ++ codes "\n"
event_line (NodeUpdated old new) = codes "updated " ++ id_text new.id ++ codes "\n"
event_line (FocusMoved old new) = focus_line (seen_id old) (seen_id new)
event_line (NodeRemoved old) = codes "removed " ++ id_text old.id ++ codes "\n"
