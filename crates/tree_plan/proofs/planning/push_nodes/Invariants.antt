use Rattle.std.proofs.Common.{◌≡◌, ℕ, ◌≤◌, ◌++◌, map, take, Some}
use Rattle.tree_plan.specs.Planned.{plan_change, taken_at, slot_data}
use Rattle.tree_plan.proofs.planning.push_nodes.Given as goal

abbrev pub invariant-loop-id : goal.invariant-loop-id
invariant-loop-id l = record {
  listed : l.changes.items ≡ l.fn.changes.items ++ map (plan_change l.fn.slots.items) (take l.id-index l.nodes);
  fresh : (j k : ℕ) → l.id-index ≤ j → taken_at l.nodes j ≡ Some k → slot_data l.slots.items k ≡ slot_data l.fn.slots.items k;
}
