-- Whether two nodes are equal.
use Rattle.std.specs.Prelude.{◌≡◌, Bool}
use Rattle.std.specs.Bool.{Decides}
use Rattle.std.specs.Cmp.{IsPartialEquivalence, IsEquivalence, partial_equiv_from_equiv}
use Rattle.schema.specs.NodeData.{NodeData}
use Rattle.schema.specs.SameBy.{same_by, same_by-decides, same_by-equivalence}
use Rattle.schema.specs.contracts.Node.{the_row}

unfoldable pub same_node : NodeData → NodeData → Bool
same_node = same_by the_row.coded

pub same_node-decides : (a b : NodeData) → Decides (same_node a b) (a ≡ b)
unfolding same_node
same_node-decides a b = same_by-decides the_row.coded a b

pub same_node_equivalence : IsEquivalence same_node
unfolding same_node
same_node_equivalence = same_by-equivalence the_row.coded

pub same_node_laws : IsPartialEquivalence same_node
same_node_laws = partial_equiv_from_equiv same_node_equivalence
