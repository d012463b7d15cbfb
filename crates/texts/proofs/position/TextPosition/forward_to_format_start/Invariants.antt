use Rattle.std.proofs.Common.{length}
use Rattle.views.specs.Runs.{ids_after}
use Rattle.texts.proofs.FormatStarts.{IsSoughtFrom}
use Rattle.texts.proofs.position.TextPosition.forward_to_format_start.Given as goal

abbrev pub invariant-loop-next : goal.invariant-loop-next
invariant-loop-next l = IsSoughtFrom l.fn.self.run l.run

abbrev pub decreases-loop-next : goal.decreases-loop-next
decreases-loop-next l = length (ids_after l.run)
