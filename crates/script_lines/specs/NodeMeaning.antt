-- The reading of the line of a node.
use Rattle.std.specs.Prelude.{ℕ, ◌≡◌, List, codes, Result}
use Rattle.schema.specs.NodeData.{NodeData}
use Rattle.schema.specs.declared.NodeId.{NodeId}
use Rattle.script_lines.specs.LineReading.{ReadsBy}
use Rattle.script_lines.specs.declared.lines.Line.{Line}
use Rattle.script_lines.specs.declared.lines.Line.TheVariants as says
use Rattle.script_nodes.specs.FieldMeaning.{node_means}
use Rattle.script_words.specs.declared.stops.Stop.{Stop}

-- the line is that of this node
abbrev pub IsNodeLine : NodeId × NodeData → Line → Type 0
IsNodeLine entry line = line ≡ says.Node entry.0 entry.1

-- the line of a node is read as the node that it means, or is bad where it means none, unless memory runs out
abbrev pub ReadsNode : List ℕ → Result Line Stop → Type 0
ReadsNode text result = ReadsBy (codes "node") node_means IsNodeLine text result
