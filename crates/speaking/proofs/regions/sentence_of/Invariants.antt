use Rattle.std.proofs.Common.{◌≡◌, [], map, take}
use Rattle.std.specs.List.{fold}
use Rattle.std.specs.String.{string_bytes}
use Rattle.views.specs.Nodes.{world_at, id_at}
use Rattle.speaking.specs.Above.{AreRight}
use Rattle.speaking.specs.Regions.{with_node}
use Rattle.speaking.proofs.regions.sentence_of.Given as goal

-- the text has what the nodes so far say
abbrev pub invariant-loop-node : goal.invariant-loop-node
invariant-loop-node l =
    AreRight (world_at l.fn.region) l.fn.known
    → (string_bytes l.text ≡ fold (with_node (world_at l.fn.region) l.fn.noted (id_at l.fn.region)) [] (map id_at (take l.node-index l.fn.nodes))) × AreRight (world_at l.fn.region) l.known
