use Rattle.std.proofs.Common.{◌+◌, length, sym, eq-eqb}
use Rattle.text_boundaries.specs.RunNumbers.{number_in, text_around}
use Rattle.text_boundaries.proofs.FlatRuns.{last_number, more_runs}
use Rattle.text_boundaries.proofs.BoundarySearches.{differ_tested}
use Rattle.text_boundaries.proofs.is_last.Goals as goal

pub returns-in_default : goal.returns-in_default
returns-in_default c = sym (eq-eqb (number_in c.args.run + 1) (length (text_around c.args.run)) (last_number c.args.run c.in_default.ensures))

pub returns : goal.returns
returns c = sym (differ_tested (number_in c.args.run + 1) (length (text_around c.args.run)) (more_runs c.args.run c.in-Some._next c.in-Some.ensures))
