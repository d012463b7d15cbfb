use Rattle.std.proofs.Common.{◌-◌}
use Rattle.model.specs.Values.{bullets}
use Rattle.views.specs.Writes.{IsUnderWay, bullet_calls}
use Rattle.views.proofs.Calling.{IsCalledUpTo}
use Rattle.views.proofs.node.masking.write_bullets.Given as goal

abbrev pub invariant-loop : goal.invariant-loop
invariant-loop g l = record {
  way : IsUnderWay g.W.TextWrite.received g.W.TextWrite.faults (bullets l.fn.count) (bullets (l.fn.count - l.counter)) l.fn.writer l.writer;
  calls : IsCalledUpTo g.W.TextWrite.steps (bullet_calls l.fn.count) (bullet_calls (l.fn.count - l.counter)) l.fn.writer l.writer;
}
