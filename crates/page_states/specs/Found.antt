-- What is found out about the nodes of a state.
use Rattle.std.specs.Prelude.{◌≡◌, Option, Some, IfSome, option_map}
use Rattle.std.specs.Borrow.{Bor}
use Rattle.std.specs.BTreeMap.{BTreeMap, get}
use Rattle.model.specs.declared.FullNodeId.{FullNodeId}
use Rattle.model.specs.Events.{Event, NodeAdded, NodeUpdated, FocusMoved, NodeRemoved, Seen}
use Rattle.model.specs.FullIds.{full_cmp}
use Rattle.hidden_texts.specs.Hidden.{is_in_password}
use Rattle.model.specs.Geometry.{bounding_box}
use Rattle.model.specs.World.{World}
use Rattle.views.specs.declared.node.node_ref.NodeRef.{NodeRef}
use Rattle.views.specs.Nodes.{world_at, id_at, seen_node, seen_through}
use Rattle.page_states.specs.declared.found.Facts.{Facts}
use Rattle.page_states.specs.declared.found.View.{View}
use Rattle.page_states.specs.declared.places.Place.{Place}
use Rattle.page_states.specs.Places.{IsPlace}
use Rattle.page_states.specs.Said.{hidden_at}

-- which of a node's texts are hidden, whether it is in a password, and its box
abbrev pub facts_at : World → FullNodeId → Facts
facts_at w id = record { hidden = hidden_at w id; is_in_password = is_in_password w id; rect = bounding_box w id }

-- all facts that are known are right in this world
abbrev pub AreRight : World → BTreeMap FullNodeId Facts → Type 0
AreRight w known = (id : FullNodeId) (facts : Facts) → get full_cmp known id ≡ Some facts → facts ≡ facts_at w id

-- or none is known
abbrev pub AreRightIf : World → Option (BTreeMap FullNodeId Facts) → Type 0
AreRightIf w known = IfSome known (AreRight w)

-- what is known of the world before a step and of the one after it is right
abbrev pub AreReady : World → World → Option (BTreeMap FullNodeId Facts) → Option (BTreeMap FullNodeId Facts) → Type 0
AreReady old new before after = AreRightIf old before × AreRightIf new after

abbrev pub IsPlaceIn : World → Place → Type 0
IsPlaceIn w place = (world_at place.node ≡ w) × IsPlace place

-- the facts of a view are those of its node
abbrev pub IsRight : View → Type 0
IsRight v = v.facts ≡ facts_at (world_at v.node) (id_at v.node)

-- a view of this node, with its facts
abbrev pub IsViewOf : NodeRef → View → Type 0
IsViewOf n v = (seen_node v.node ≡ seen_node n) × IsRight v

abbrev pub view_seen : Option View → Option Seen
view_seen o = option_map (λ (v : View). seen_node v.node) o

-- views of these nodes, if there are any
abbrev pub views_seen : Option (Bor NodeRef) → Option View → Type 0
views_seen nodes views = (view_seen views ≡ seen_through nodes) × IfSome views IsRight

abbrev pub IsSeenIn : World → Option (Bor NodeRef) → Type 0
IsSeenIn w nodes = IfSome (seen_through nodes) (λ n. n.world ≡ w)

-- the event is one of a step from the one world to the other
abbrev pub IsOfStep : World → World → Event → Type 0
IsOfStep old new (NodeAdded n) = n.world ≡ new
IsOfStep old new (NodeUpdated o n) = (o.world ≡ old) × (n.world ≡ new)
IsOfStep old new (FocusMoved o n) = IfSome o (λ s. s.world ≡ old) × IfSome n (λ s. s.world ≡ new)
IsOfStep old new (NodeRemoved o) = o.world ≡ old
