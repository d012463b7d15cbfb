use Rattle.std.proofs.Common.{length}
use Rattle.views.specs.Nodes.{world_at, id_at}
use Rattle.views.specs.RunTexts.{shown_text, shown_of_all, sents_from}
use Rattle.model.specs.TextRuns.{sent_runs}
use Rattle.views.specs.ValueCalls.{calls_of_runs}
use Rattle.views.specs.Writes.{IsUnderWay}
use Rattle.views.proofs.Calling.{IsCalledUpTo}
use Rattle.views.proofs.node.run_texts.write_runs.Given as goal

-- the runs before those that are left are written
abbrev pub invariant-loop-rest : goal.invariant-loop-rest
invariant-loop-rest g l = record {
  way : IsUnderWay g.W.TextWrite.received g.W.TextWrite.faults (shown_text l.fn.masked (world_at l.fn.root) (id_at l.fn.root)) (shown_of_all l.fn.masked (sents_from l.rest)) l.fn.writer l.writer;
  calls : IsCalledUpTo g.W.TextWrite.steps (calls_of_runs l.fn.masked (sent_runs (world_at l.fn.root) (id_at l.fn.root))) (calls_of_runs l.fn.masked (sents_from l.rest)) l.fn.writer l.writer;
}

abbrev pub decreases-loop-rest : goal.decreases-loop-rest
decreases-loop-rest g l = length (sents_from l.rest)
