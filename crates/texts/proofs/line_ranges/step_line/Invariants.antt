use Rattle.std.proofs.Common.{◌≡◌, length}
use Rattle.model.specs.FlatText.{first_run, ends_line}
use Rattle.views.specs.Runs.{text_root_of, ids_after}
use Rattle.text_boundaries.specs.RunNumbers.{number_in, text_around}
use Rattle.texts.proofs.line_ranges.step_line.Given as goal

abbrev pub invariant-loop-ends : goal.invariant-loop-ends
invariant-loop-ends l = record {
  same : text_root_of l.run ≡ text_root_of l.fn.run;
  sought : first_run (text_around l.fn.run) (number_in l.fn.run) (ends_line (text_around l.fn.run)) ≡ first_run (text_around l.fn.run) (number_in l.run) (ends_line (text_around l.fn.run));
}

abbrev pub decreases-loop-ends : goal.decreases-loop-ends
decreases-loop-ends l = length (ids_after l.run)
