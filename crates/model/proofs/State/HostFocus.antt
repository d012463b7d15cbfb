-- Whether the host is focused changes neither what is reached, nor what is kept, nor the chain of the focus.
use Rattle.std.proofs.Common.{Bool}
use Rattle.model.specs.declared.FullNodeId.{FullNodeId}
use Rattle.model.specs.World.{World, Reached, Kept}
use Rattle.model.specs.World as world
use Rattle.model.specs.Focus.{OnChain, first, next}
use Rattle.model.specs.State.{IsState, with_host}

module _ {w : World} (host : Bool) where
  reached_told : (id : FullNodeId) → Reached w id → Reached (with_host w host) id
  reached_told id (world.Reached.root index t is) = world.Reached.root index t is
  reached_told id (world.Reached.child parent id' index reached at) = world.Reached.child parent id index (reached_told parent reached) at

  kept_told : (index : _) → Kept w index → Kept (with_host w host) index
  kept_told index world.Kept.root = world.Kept.root
  kept_told index (world.Kept.grafted graft inner name kept reached grafts named) = world.Kept.grafted graft inner name (kept_told graft.tree kept) (reached_told graft reached) grafts named

  reached_before : (id : FullNodeId) → Reached (with_host w host) id → Reached w id
  reached_before id (world.Reached.root index t is) = world.Reached.root index t is
  reached_before id (world.Reached.child parent id' index reached at) = world.Reached.child parent id index (reached_before parent reached) at

  kept_before : (index : _) → Kept (with_host w host) index → Kept w index
  kept_before index world.Kept.root = world.Kept.root
  kept_before index (world.Kept.grafted graft inner name kept reached grafts named) = world.Kept.grafted graft inner name (kept_before graft.tree kept) (reached_before graft reached) grafts named

  pub chain_before : (id : FullNodeId) → OnChain (with_host w host) id → OnChain w id
  chain_before id (first t is) = first t is
  chain_before id (next graft id' on goes) = next graft id (chain_before graft on) (record { kept = kept_before graft.tree goes.kept; reached = reached_before graft goes.reached; name = goes.name; grafts = goes.grafts; declared = goes.declared })

-- a change of the host's focus leaves a state
pub host_leaves_state : (w : World) (host : Bool) → IsState w → IsState (with_host w host)
host_leaves_state w host s = record {
  known_first = s.known_first;
  known_once = s.known_once;
  known_fit = s.known_fit;
  root_present = s.root_present;
  present_known = s.present_known;
  present_kept = λ index there. kept_told host index (s.present_kept index there);
  node_present = s.node_present;
  node_reached = λ id there. reached_told host id (s.node_reached id there);
  root_is_node = s.root_is_node;
  listed_is_node = s.listed_is_node;
  listed_once = s.listed_once;
  root_unlisted = s.root_unlisted;
  graft_childless = s.graft_childless;
  root_ungrafted = s.root_ungrafted;
  grafted_once = s.grafted_once;
  focus_is_node = λ id on. s.focus_is_node id (chain_before host id on);
  focus_goes_on = λ id name on grafts. s.focus_goes_on id name (chain_before host id on) grafts;
}
