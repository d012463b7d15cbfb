use Rattle.std.proofs.Common.{◌≡◌, ◌++◌, take}
use Rattle.std.specs.Map.{keys_of}
use Rattle.values_by_id.proofs.index.IdIndex.ids.Given as goal

abbrev pub invariant-loop-entry : goal.invariant-loop-entry
invariant-loop-entry g l = l.ids.items ≡ l.initial.ids.items ++ keys_of (take l.entry-index l.entry-items)
