use Rattle.std.proofs.Common.{length}
use Rattle.std.specs.Prelude.{true}
use Rattle.views.specs.Nodes.{world_at, id_at}
use Rattle.views.specs.RunTexts.{shown_text, shown_of_all, sents_from}
use Rattle.views.specs.Writes.{IsUnderWay}
use Rattle.hidden_texts.proofs.showing.write_masked.Given as goal

-- a bullet is written for each character of the runs before those that are left
abbrev pub invariant-loop-rest : goal.invariant-loop-rest
invariant-loop-rest g l = IsUnderWay g.W.TextWrite.received g.W.TextWrite.faults (shown_text true (world_at l.fn.root) (id_at l.fn.root)) (shown_of_all true (sents_from l.rest)) l.fn.writer l.writer

abbrev pub decreases-loop-rest : goal.decreases-loop-rest
decreases-loop-rest g l = length (sents_from l.rest)
