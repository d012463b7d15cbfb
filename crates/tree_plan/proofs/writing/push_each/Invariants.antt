use Rattle.std.proofs.Common.{◌≡◌, ◌++◌, map, take}
use Rattle.tree_plan.specs.Writing.{event_of}
use Rattle.tree_plan.proofs.writing.push_each.Given as goal

abbrev pub invariant-loop-id : goal.invariant-loop-id
invariant-loop-id l = l.events.items ≡ l.fn.events.items ++ map (event_of l.group) (take l.id-index l.ids)
