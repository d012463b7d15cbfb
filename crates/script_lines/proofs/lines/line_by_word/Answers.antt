use Rattle.std.proofs.Common.{refl}
use Rattle.script_lines.proofs.lines.line_by_word.Goals as goal

pub returns-in_ok-update_line-in-update-clause-update : goal.returns-in_ok-update_line-in-update-clause-update
returns-in_ok-update_line-in-update-clause-update c = λ w.
    let k = c.in_ok-update_line-in-update.ensures in (k.0, k.1, (c.in_ok-update_line-in-update.field-0, refl, k.2))

pub returns-in_ok-id-in-node-clause-node : goal.returns-in_ok-id-in-node-clause-node
returns-in_ok-id-in-node-clause-node c = λ w. ((c.in_ok-id-in-node.id, c.in_ok-id-in-node.node), c.in_ok-id-in-node.ensures, refl)
