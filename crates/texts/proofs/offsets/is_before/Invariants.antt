use Rattle.texts.proofs.RunOrder.{IsAhead, IsBehind, length_after}
use Rattle.texts.proofs.offsets.is_before.Given as goal

abbrev pub invariant-loop-ahead : goal.invariant-loop-ahead
invariant-loop-ahead l = record {
  ahead : IsAhead l.run l.other l.ahead;
  behind : IsBehind l.run l.other l.behind;
}

abbrev pub decreases-loop-ahead : goal.decreases-loop-ahead
decreases-loop-ahead l = length_after l.ahead
