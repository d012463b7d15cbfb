use Rattle.std.proofs.Common.{length}
use Rattle.views.specs.Runs.{ids_before}
use Rattle.texts.proofs.RunWords.{IsBackRun}
use Rattle.texts.proofs.position.TextPosition.word_before.Given as goal

abbrev pub invariant-loop-previous : goal.invariant-loop-previous
invariant-loop-previous l = IsBackRun l.fn.self l.run

abbrev pub decreases-loop-previous : goal.decreases-loop-previous
decreases-loop-previous l = length (ids_before l.run)
