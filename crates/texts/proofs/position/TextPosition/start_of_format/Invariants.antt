use Rattle.std.proofs.Common.{length}
use Rattle.views.specs.Runs.{ids_before}
use Rattle.texts.proofs.FormatStarts.{IsSoughtUpTo}
use Rattle.texts.proofs.position.TextPosition.start_of_format.Given as goal

abbrev pub invariant-loop-previous : goal.invariant-loop-previous
invariant-loop-previous l = IsSoughtUpTo l.fn.self.run l.run

abbrev pub decreases-loop-previous : goal.decreases-loop-previous
decreases-loop-previous l = length (ids_before l.run)
