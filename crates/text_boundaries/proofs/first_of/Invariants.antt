use Rattle.std.proofs.Common.{◌≡◌, ◌+◌, length}
use Rattle.model.specs.FlatText.{last_run}
use Rattle.views.specs.Runs.{text_root_of, ids_before}
use Rattle.text_boundaries.specs.RunNumbers.{number_in, text_around}
use Rattle.text_boundaries.specs.Marks.{begins_at}
use Rattle.text_boundaries.proofs.first_of.Given as goal

abbrev pub invariant-loop-previous : goal.invariant-loop-previous
invariant-loop-previous l = record {
  same : text_root_of l.run ≡ text_root_of l.fn.start;
  sought : last_run (text_around l.fn.start) (number_in l.fn.start + 1) (begins_at l.fn.mark (text_around l.fn.start)) ≡ last_run (text_around l.fn.start) (number_in l.run + 1) (begins_at l.fn.mark (text_around l.fn.start));
}

abbrev pub decreases-loop-previous : goal.decreases-loop-previous
decreases-loop-previous l = length (ids_before l.run)
