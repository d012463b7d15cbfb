use Rattle.std.proofs.Common.{length}
use Rattle.views.specs.Runs.{ids_after}
use Rattle.texts.proofs.RangeEndTests.{IsUpToBoth}
use Rattle.texts.proofs.range.TextRange.has_before_end.Given as goal

abbrev pub invariant-loop-wanted : goal.invariant-loop-wanted
invariant-loop-wanted l = IsUpToBoth l.fn.self l.fn.position l.end l.run

abbrev pub decreases-loop-wanted : goal.decreases-loop-wanted
decreases-loop-wanted l = length (ids_after l.run)
