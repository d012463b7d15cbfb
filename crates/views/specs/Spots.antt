-- Nodes of a world at their places, as a walk keeps them.
use Rattle.std.specs.Prelude.{◌≡◌, List, [], Some}
use Rattle.std.specs.Option.{option_map_or}
use Rattle.std.specs.Coded.{Coded-set, coded_option}
use Rattle.schema.specs.NodeData.{NodeData}
use Rattle.schema.specs.contracts.Node.{the_row as node_row}
use Rattle.model.specs.declared.FullNodeId.{FullNodeId}
use Rattle.model.specs.FullIds.{coded_full}
use Rattle.model.specs.World.{World, Place, HasData, StandsAt, data_of, child_at, root_named, at_most_one}
use Rattle.model.specs.Forest.{place_of}
use Rattle.views.specs.Places.{coded_place}
use Rattle.views.specs.declared.walks.spot.Member.{Member}
use Rattle.views.specs.declared.walks.spot.Spot.{Spot}

-- the node has this data and this place
pub record IsMember (w : World) (m : Member) : Type 0 where
  pub known : HasData w m.id m.node.now
  pub placed : m.place.now ≡ place_of w m.id

-- the children that a node has as a graft: the root of the tree that it names, if that is present
abbrev pub grafted : World → NodeData → List FullNodeId
grafted w d = option_map_or (λ name. at_most_one (root_named w name)) d.tree_id []

abbrev pub place_at : Spot → Place
place_at s = (s.parent.id, s.index)

-- the node has this place, below the parent
pub record IsSpot (w : World) (s : Spot) : Type 0 where
  pub parent : IsMember w s.parent
  pub member : IsMember w s.member
  pub stands : StandsAt w (place_at s) s.member.id

pub IsMember-prop : (w : World) (m : Member) → IsProp (IsMember w m)
IsMember-prop w m a b = λ i. record {
  known = Coded-set (coded_option node_row.coded) (data_of w m.id) (Some m.node.now) a.known b.known i;
  placed = Coded-set (coded_option coded_place) m.place.now (place_of w m.id) a.placed b.placed i;
}

StandsAt-prop : (w : World) (p : Place) (id : FullNodeId) → IsProp (StandsAt w p id)
StandsAt-prop w p id = Coded-set (coded_option coded_full) (child_at w p) (Some id)

pub IsSpot-prop : (w : World) (s : Spot) → IsProp (IsSpot w s)
IsSpot-prop w s a b = λ i. record {
  parent = IsMember-prop w s.parent a.parent b.parent i;
  member = IsMember-prop w s.member a.member b.member i;
  stands = StandsAt-prop w (place_at s) s.member.id a.stands b.stands i;
}
