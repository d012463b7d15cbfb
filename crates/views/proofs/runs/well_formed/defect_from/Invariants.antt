use Rattle.std.proofs.Common.{◌≡◌, length}
use Rattle.views.specs.Runs.{sent_of, ids_after, sents_after}
use Rattle.views.specs.DefectWalks.{defect_from}
use Rattle.views.proofs.runs.well_formed.defect_from.Given as goal

abbrev pub invariant-loop-defect : goal.invariant-loop-defect
invariant-loop-defect l = defect_from l.tree l.password 0 (sent_of l.first) (sents_after l.first) ≡ defect_from l.tree l.password l.size (sent_of l.run) (sents_after l.run)

abbrev pub decreases-loop-defect : goal.decreases-loop-defect
decreases-loop-defect l = length (ids_after l.run)
