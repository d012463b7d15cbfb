use Rattle.values_by_id.specs.Found.{IsFoundBelow}
use Rattle.values_by_id.proofs.others.trie_of.Given as goal

abbrev pub invariant-loop-number : goal.invariant-loop-number
invariant-loop-number g l = IsFoundBelow l.trie l.entries l.number
