use Rattle.std.proofs.Common.{◌≤◌, length}
use Rattle.views.specs.Runs.{ids_after}
use Rattle.texts.proofs.LineSteps.{IsAtLine}
use Rattle.texts.proofs.line_ranges.line_range_of.Given as goal

abbrev pub invariant-loop-line : goal.invariant-loop-line
invariant-loop-line l = record {
  at : IsAtLine l.fn.root l.line l.first;
  upto : l.line ≤ l.index;
}

abbrev pub decreases-loop-line : goal.decreases-loop-line
decreases-loop-line l = length (ids_after l.first)
