-- The same of a node as a walk gives it.
use Rattle.std.specs.Prelude.{Bool}
use Rattle.model.specs.declared.FullNodeId.{FullNodeId}
use Rattle.model.specs.World.{World}
use Rattle.model.specs.TextRuns.{is_password}
use Rattle.hidden_texts.specs.Hidden.{hides_part}

abbrev pub is_password_node : World × FullNodeId → Bool
is_password_node node = is_password node.0 node.1

abbrev pub hides_part_of : World × FullNodeId → Bool
hides_part_of node = hides_part node.0 node.1
