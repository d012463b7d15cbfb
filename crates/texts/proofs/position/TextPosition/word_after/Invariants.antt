use Rattle.std.proofs.Common.{length}
use Rattle.views.specs.Runs.{ids_after}
use Rattle.texts.proofs.RunWords.{IsPastRun}
use Rattle.texts.proofs.position.TextPosition.word_after.Given as goal

abbrev pub invariant-loop-next : goal.invariant-loop-next
invariant-loop-next l = IsPastRun l.fn.self l.run

abbrev pub decreases-loop-next : goal.decreases-loop-next
decreases-loop-next l = length (ids_after l.run)
