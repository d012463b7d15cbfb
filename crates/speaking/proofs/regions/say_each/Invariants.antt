use Rattle.std.proofs.Common.{◌≡◌, map, take}
use Rattle.std.specs.List.{fold}
use Rattle.views.specs.Nodes.{id_at}
use Rattle.views.specs.ShownWorlds.{world_of}
use Rattle.speaking.specs.Above.{AreRight}
use Rattle.speaking.specs.Regions.{said_at}
use Rattle.speaking.proofs.regions.say_each.Given as goal

-- what is new in the regions so far is said
abbrev pub invariant-loop-node : goal.invariant-loop-node
invariant-loop-node l = record {
  said : l.voice ≡ fold (said_at (world_of l.fn.state) l.fn.noted) l.fn.voice (map id_at (take l.node-index l.fn.nodes));
  right : AreRight (world_of l.fn.state) l.known;
}
