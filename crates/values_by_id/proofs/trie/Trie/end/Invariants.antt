use Rattle.std.proofs.Common.{◌-◌, length}
use Rattle.values_by_id.specs.Ways.{IsOn}
use Rattle.values_by_id.proofs.trie.Trie.end.Given as goal

abbrev pub invariant-way : goal.invariant-way
invariant-way l = IsOn l.self-inside.cells.items l.id l.shift l.first

abbrev pub decreases-way : goal.decreases-way
decreases-way l = length l.self-inside.cells.items - l.first
