-- The nodes of a state as a page shows them.
use Rattle.std.specs.Prelude.{◌≡◌, Bool, false, List, [], ◌∷◌, map, All, Option, Some, None, IfSome, if◌then◌else◌}
use Rattle.std.specs.BTreeMap.{BTreeMap, get}
use Rattle.hidden_texts.specs.Hidden.{is_in_password}
use Rattle.schema.specs.declared.geometry.WideRect.{WideRect}
use Rattle.model.specs.declared.FullNodeId.{FullNodeId}
use Rattle.model.specs.World.{World, root_of}
use Rattle.model.specs.Filters.{is_hidden, common_filter}
use Rattle.model.specs.FullIds.{full_cmp}
use Rattle.model.specs.Geometry.{bounding_box}
use Rattle.model.specs.TextRuns.{is_password}
use Rattle.views.specs.declared.node.node_ref.NodeRef.{NodeRef}
use Rattle.views.specs.Nodes.{world_at, id_at}
use Rattle.views.specs.Descendants.{descendants}
use Rattle.page_states.specs.declared.marks.Mark.{Mark}
use Rattle.page_states.specs.declared.places.Place.{Place}
use Rattle.page_states.specs.Known.{depth_at, is_not_drawn}
use Rattle.page_states.specs.Said.{hidden_at}
use Rattle.page_states.specs.Sources.{HasValueOf}

abbrev pub node_at : Place → NodeRef
node_at place = place.node

-- the properties are those of the node
pub record IsPlace (place : Place) : Type 0 where
  pub depth : place.depth ≡ depth_at (world_at place.node) (id_at place.node)
  pub answer : place.answer ≡ common_filter (world_at place.node) (id_at place.node)
  pub left_out : place.is_left_out ≡ is_not_drawn (world_at place.node) (id_at place.node)
  pub hidden : place.is_hidden ≡ is_hidden (world_at place.node) (id_at place.node)
  pub texts : place.hidden ≡ hidden_at (world_at place.node) (id_at place.node)
  pub within : place.is_in_password ≡ is_in_password (world_at place.node) (id_at place.node)
  pub box : place.rect ≡ bounding_box (world_at place.node) (id_at place.node)
  pub source : IfSome place.source (HasValueOf (world_at place.node) (id_at place.node))

-- the mark is what the update did to the node
abbrev pub HasMark : BTreeMap FullNodeId Mark → Place → Type 0
HasMark marks place = place.mark ≡ get full_cmp marks (id_at place.node)

-- the box that a picture draws
abbrev pub box_drawn : Place → Option WideRect
box_drawn place = if place.is_left_out then None else place.rect

abbrev pub is_password_at : NodeRef → Bool
is_password_at n = is_password (world_at n) (id_at n)

-- unless there may be one, the world has no password
abbrev pub IsOpenUnless : Bool → World → Type 0
IsOpenUnless has w = has ≡ false → (id : FullNodeId) → is_password w id ≡ false

-- views of these nodes of the world, in their order
pub record AreNodes (w : World) (ids : List FullNodeId) (nodes : List NodeRef) : Type 0 where
  pub same : map id_at nodes ≡ ids
  pub world : All (λ node. world_at node ≡ w) nodes

-- a node and all below it, a parent before its children
abbrev pub from_node : World → FullNodeId → List FullNodeId
from_node w top = top ∷ descendants w top

abbrev pub from_root : World → Option FullNodeId → List FullNodeId
from_root w None = []
from_root w (Some root) = from_node w root

-- the nodes that a page shows: all
abbrev pub shown_nodes : World → List FullNodeId
shown_nodes w = from_root w (root_of w 0)
