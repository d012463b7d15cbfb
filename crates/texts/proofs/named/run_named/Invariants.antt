use Rattle.std.proofs.Common.{◌≡◌, length}
use Rattle.views.specs.Runs.{text_root_of, ids_after}
use Rattle.texts.proofs.NamedRuns.{IsSought}
use Rattle.texts.proofs.named.run_named.Given as goal

abbrev pub invariant-loop-raw : goal.invariant-loop-raw
invariant-loop-raw l = record {
  same : text_root_of l.run ≡ l.fn.root;
  sought : IsSought l.fn.root l.fn.raw l.run;
}

abbrev pub decreases-loop-raw : goal.decreases-loop-raw
decreases-loop-raw l = length (ids_after l.run)
