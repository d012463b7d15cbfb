use Rattle.std.proofs.Common.{◌≡◌, take}
use Rattle.std.specs.List.{flat_map}
use Rattle.tree_plan.specs.Writing.{change_entry}
use Rattle.tree_plan.proofs.writing.node_changes.Given as goal

abbrev pub invariant-loop-id : goal.invariant-loop-id
invariant-loop-id l = l.changes.items ≡ flat_map change_entry (take l.id-index l.verdicts)
