use Rattle.std.proofs.Common.{◌≡◌, ◌++◌, take}
use Rattle.std.specs.List.{flat_map}
use Rattle.tree_plan.specs.Writing.{told_of}
use Rattle.tree_plan.proofs.writing.push_group.Given as goal

abbrev pub invariant-loop-id : goal.invariant-loop-id
invariant-loop-id l = l.events.items ≡ l.fn.events.items ++ flat_map (told_of l.told) (take l.id-index l.verdicts)
