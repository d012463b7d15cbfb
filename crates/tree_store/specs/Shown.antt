-- The world that a store shows, and the invariant of its records.
use Rattle.std.specs.Prelude.{◌≡◌, Some, ◌↔◌, option_and_then}
use Rattle.std.specs.BTreeMap.{BTreeMap}
use Rattle.schema.specs.declared.TreeId.{TreeId}
use Rattle.model.specs.declared.FullNodeId.{FullNodeId}
use Rattle.model.specs.World.{World, index_of, graft_name}
use Rattle.model.specs.Focus.{IsEffectiveFocus}
use Rattle.model.specs.State.{IsState}
use Rattle.tree_store.specs.declared.records.NameRecord.{NameRecord}
use Rattle.tree_store.specs.declared.store.Store.TheInside.{Inside}
use Rattle.tree_store.specs.KeptNames.{name_at}
use Rattle.tree_store.specs.Stored.{nodes_shown, trees_shown, texts_shown, names_shown}
use Rattle.tree_store.specs.Cells.{slot_in}
use Rattle.tree_store.specs.Seated.{IsSeated}

abbrev pub world_shown : Inside → World
world_shown a = record {
  known = names_shown a.tables.known.items;
  trees = trees_shown 0 a.tables.known.items;
  nodes = nodes_shown a.tables.nodes;
  toolkit = texts_shown a.tables.toolkit;
  host_focused = a.host_focused;
}

-- Each name that is known or grafted has a record: its index, and the node that grafts it. A name may have a record without both.
pub record NamesAreTrue (m : BTreeMap TreeId NameRecord) (w : World) : Type 0 where
  pub index : (name : TreeId) → option_and_then (λ r. r.index) (name_at m name) ≡ index_of w name
  pub graft : (name : TreeId) (g : FullNodeId) → (option_and_then (λ r. r.graft) (name_at m name) ≡ Some g) ↔ (graft_name w g ≡ Some name)

-- a store's records are those of the world that it shows, which is a state
pub record IsStored (a : Inside) (w : World) : Type 0 where
  pub state : IsState w
  pub seated : IsSeated a.tables.nodes (slot_in a.tables.nodes) w
  pub names : NamesAreTrue a.tables.names w
  pub focus : IsEffectiveFocus w a.focus
