use Rattle.std.proofs.Common.{◌≡◌, ◌+◌, length}
use Rattle.views.specs.Runs.{text_root_of, ids_before}
use Rattle.text_boundaries.specs.RunNumbers.{number_in}
use Rattle.texts.specs.PointTests.{last_passing}
use Rattle.texts.proofs.PointPlaces.{last_before}
use Rattle.texts.proofs.points.last_at.Given as goal

abbrev pub invariant-loop-test : goal.invariant-loop-test
invariant-loop-test l = record {
  same : text_root_of l.run ≡ l.fn.root;
  sought : last_passing l.fn.root l.fn.test l.fn.point ≡ last_before l.fn.root l.fn.test l.fn.point (number_in l.run + 1);
}

abbrev pub decreases-loop-test : goal.decreases-loop-test
decreases-loop-test l = length (ids_before l.run)
