use Rattle.std.proofs.Common.{◌≡◌, map, take}
use Rattle.std.specs.Prelude.{All}
use Rattle.views.specs.ShownWorlds.{world_of}
use Rattle.page_states.specs.Known.{IsStep}
use Rattle.page_states.specs.Places.{node_at, HasMark, IsPlace}
use Rattle.page_states.proofs.places.places_of.Given as goal

abbrev pub invariant-loop-node : goal.invariant-loop-node
invariant-loop-node l = record {
  path : All (IsStep (world_of l.fn.state)) l.path.items;
  nodes : map node_at l.places.items ≡ take l.node-index l.fn.nodes;
  each : All IsPlace l.places.items;
  marks : All (HasMark l.fn.marks) l.places.items;
}
