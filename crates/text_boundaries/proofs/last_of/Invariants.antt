use Rattle.std.proofs.Common.{◌≡◌, length}
use Rattle.model.specs.FlatText.{first_run}
use Rattle.views.specs.Runs.{text_root_of, ids_after}
use Rattle.text_boundaries.specs.RunNumbers.{number_in, text_around}
use Rattle.text_boundaries.specs.Marks.{ends_at}
use Rattle.text_boundaries.proofs.last_of.Given as goal

abbrev pub invariant-loop-mark : goal.invariant-loop-mark
invariant-loop-mark l = record {
  same : text_root_of l.run ≡ text_root_of l.fn.start;
  sought : first_run (text_around l.fn.start) (number_in l.fn.start) (ends_at l.fn.mark (text_around l.fn.start)) ≡ first_run (text_around l.fn.start) (number_in l.run) (ends_at l.fn.mark (text_around l.fn.start));
}

abbrev pub decreases-loop-mark : goal.decreases-loop-mark
decreases-loop-mark l = length (ids_after l.run)
