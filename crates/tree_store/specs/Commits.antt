-- What has to be reserved so that an update's changes can be written without allocating.
use Rattle.std.specs.Prelude.{◌≡◌, Option, Some, None, Bool, true, All, AllPairs, IfSome, Contains, ◌≢◌, ◌<◌, ℕ, length, ◌||◌, is_some, List, [], ◌∷◌, ◌++◌, if◌then◌else◌}
use Rattle.std.specs.Option.{option_map}
use Rattle.std.specs.FinSet.{contains}
use Rattle.schema.specs.NodeData.{NodeData}
use Rattle.schema.specs.UpdateData.{InfoData}
use Rattle.schema.specs.declared.NodeId.{NodeId}
use Rattle.schema.specs.declared.TreeId.{TreeId}
use Rattle.model.specs.declared.FullNodeId.{FullNodeId}
use Rattle.model.specs.World.{Place, data_of, index_of}
use Rattle.model.specs.Update.{UpdateData}
use Rattle.tree_changes.specs.declared.decision.NodeChange.{NodeChange}
use Rattle.tree_changes.specs.declared.decision.NodeChange.TheVariants.{Put, Gone}
use Rattle.tree_changes.specs.declared.decision.Decision.{Decision}
use Rattle.tree_changes.specs.Changes.{NodeChanges, change_at, entry_data, entry_of}
use Rattle.tree_store.specs.Cells.{Record}
use Rattle.tree_store.specs.StoreViews.{StoreView}
use Rattle.tree_store.specs.Cells.{SlotsView, slot_at, record_at}

-- there is a slot for each node and for each changed one, and no other
abbrev pub HasSlots : StoreView → Decision → Type 0
HasSlots k d = (id : FullNodeId) → contains k.slots id ≡ (is_some (data_of k.world id) || is_some (change_at d.nodes.items id))

-- besides, each changed name has a record, and there is room for a new name
pub record IsReadyFor (k : StoreView) (u : UpdateData) (d : Decision) : Type 0 where
  pub slots : HasSlots k d
  pub names : All (λ r. Contains k.names r.id) d.trees.items
  pub room : index_of k.world u.name ≡ None → k.room ≡ true

-- the changes give data of entries that are there, each of another one
abbrev pub HasEntries : List (NodeId × NodeData) → NodeChanges → Type 0
HasEntries nodes cs = All (λ e. IfSome (entry_of e.1) (λ k. k < length nodes)) cs

abbrev pub AreEntriesApart : NodeChanges → Type 0
AreEntriesApart cs = AllPairs (λ a b. (k : ℕ) → entry_of a.1 ≡ Some k → entry_of b.1 ≢ Some k) cs

-- the record at another place
abbrev pub record_moved_to : Option Place → Option Record → Option Record
record_moved_to place before = option_map (λ (r : Record). record { place = place; node = r.node }) before

-- the record after a change, where these are the update's nodes
abbrev pub record_after : List (NodeId × NodeData) → NodeChange → Option Record → Option Record
record_after nodes (Put place (Some k)) before =
    option_map (λ d. let r : Record = record { place = place; node = d } in r) (entry_data nodes k)
record_after nodes (Put place None) before = record_moved_to place before
record_after nodes Gone before = None

-- the record after a change that may be missing
abbrev pub changed_record : List (NodeId × NodeData) → Option NodeChange → Option Record → Option Record
changed_record nodes None before = before
changed_record nodes (Some c) before = record_after nodes c before

-- there is a slot for the records, and no other
abbrev pub HasNoSpare : SlotsView → Type 0
HasNoSpare s = (id : FullNodeId) → is_some (slot_at s id) ≡ is_some (record_at s id)

-- there is a slot for the records and for each change, and no other
abbrev pub HasRoomFor : SlotsView → NodeChanges → Type 0
HasRoomFor s cs = (id : FullNodeId) → is_some (slot_at s id) ≡ (is_some (record_at s id) || is_some (change_at cs id))

-- the names, with one more if it is new
abbrev pub with_name : Bool → List TreeId → TreeId → List TreeId
with_name is_new known name = if is_new then known ++ name ∷ [] else known

-- the toolkit's texts, after they are replaced by those of this tree info, if it is given
abbrev pub texts_after : Option InfoData → Option (List ℕ) × Option (List ℕ) → Option (List ℕ) × Option (List ℕ)
texts_after None before = before
texts_after (Some info) before = (info.toolkit_name, info.toolkit_version)
