-- What a node says together with those above it, and what is known of that while a step is told.
use Rattle.std.specs.Prelude.{◌≡◌, not, map, List, ◌++◌, find, is_some, Option, Some, if◌then◌else◌}
use Rattle.std.specs.BTreeMap.{BTreeMap, get}
use Rattle.schema.specs.NodeData.{NodeData}
use Rattle.model.specs.declared.FullNodeId.{FullNodeId}
use Rattle.model.specs.Filters.{is_hidden}
use Rattle.model.specs.FullIds.{full_cmp}
use Rattle.model.specs.Upward.{says, says_upward, upward}
use Rattle.model.specs.Views.{live}
use Rattle.model.specs.World.{World}
use Rattle.views.specs.declared.node.node_ref.NodeRef.{NodeRef}
use Rattle.views.specs.Nodes.{world_at, id_at}
use Rattle.views.specs.PlainWalks.{node_in, node_of}
use Rattle.hidden_texts.specs.Hidden.{is_in_password}
use Rattle.speaking.specs.declared.above.Above.{Above}
use Rattle.speaking.specs.declared.above.Climbed.{Climbed}
use Rattle.speaking.specs.declared.above.LookUps.{LookUps}
use Rattle.speaking.specs.Holders.{speaks_itself}

-- the live region in which a node is: the nearest node from it upwards that has a setting of how changes are announced
abbrev pub region_of : World → FullNodeId → Option FullNodeId
region_of w id = find (says (λ d. is_some d.live) w) (upward w id)

-- a node with these data is its own region if it has such a setting, and is otherwise in this one
abbrev pub region_or : FullNodeId → NodeData → Option FullNodeId → Option FullNodeId
region_or id d otherwise = if is_some d.live then Some id else otherwise

-- how its changes are announced; whether it is hidden, in a busy part, in a password, and below a node that is announced in place
-- of its runs; and its region
abbrev pub above_of : World → FullNodeId → Above
above_of w id = record {
  live = live w id;
  is_hidden = is_hidden w id;
  is_busy = says_upward (λ d. d.busy) w id;
  is_in_password = is_in_password w id;
  is_held = not (speaks_itself w id);
  region = region_of w id;
}

-- what is known of a node
abbrev pub known_at : BTreeMap FullNodeId Above → FullNodeId → Option Above
known_at known id = get full_cmp known id

-- all that is known is right in this world
abbrev pub AreRight : World → BTreeMap FullNodeId Above → Type 0
AreRight w known = (id : FullNodeId) (a : Above) → known_at known id ≡ Some a → a ≡ above_of w id

-- what is known of the world before a step and of the one after it
abbrev pub IsReady : World → World → LookUps → Type 0
IsReady old new looks = AreRight old looks.before × AreRight new looks.after

-- a path from a node up to another, which is followed by what is from there on upwards
pub record LeadsTo (w : World) (id : FullNodeId) (path : List NodeRef) (top : NodeRef) : Type 0 where
  pub world : world_at top ≡ w
  pub whole : map node_of path ++ map (node_in w) (upward w (id_at top)) ≡ map (node_in w) (upward w id)

-- a climb from a node
abbrev pub IsWay : World → FullNodeId → Climbed → Type 0
IsWay w id c = LeadsTo w id c.path.items c.top
