use Rattle.std.proofs.Common.{◌≡◌, take}
use Rattle.std.specs.Map.{keys_of}
use Rattle.schema.specs.UpdateData.{update_data}
use Rattle.tree_plan.proofs.Taking.{entry_ids}
use Rattle.tree_plan.proofs.comparing.take.Given as goal

abbrev pub invariant-loop-entry : goal.invariant-loop-entry
invariant-loop-entry l = keys_of l.list ≡ take l.entry (entry_ids l.index (update_data l.update))
