use Rattle.std.proofs.Common.{Some, None}
use Rattle.fed_tree_c.proofs.updates.ak_update_node.Goals as goal

pub returns-in-Some : goal.returns-in-Some
returns-in-Some c = (Some c.in-Some.role, c.in-Some.ensures, c.begin_node.ensures)

pub returns-in-None : goal.returns-in-None
returns-in-None c = (None, c.in-None.ensures, c.leave.ensures)
