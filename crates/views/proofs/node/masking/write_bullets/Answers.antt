use Rattle.std.proofs.Common.{◌≡◌, ◌+◌, ◌-◌, arith, ap, [], ◌∷◌}
use Rattle.schema.specs.TextCalls.{WithCharacter}
use Rattle.model.specs.FlatText.{BULLET}
use Rattle.model.specs.Values.{bullets}
use Rattle.views.specs.Writes.{bullet_calls}
use Rattle.views.proofs.Writing.{all_taken, none_taken, starts, goes_on, stops, ends, rest_is, err_with, bullets_left, no_bullets}
use Rattle.views.proofs.Calling.{begins, called_on, broken_off, all_called, left_is, one_taken, one_failed, bullet_calls_left, no_bullet_calls}
use Rattle.views.proofs.node.masking.write_bullets.Goals as goal

pub write_char-requires : goal.write_char-requires
write_char-requires g c = omega (arith, c.loop.invariant.way.written.failed, c.requires)

pub loop-init : goal.loop-init
loop-init g c =
    let e : c.args.count ≡ c.args.count - 0 = omega arith in
    record {
      way = rest_is (ap bullets e) (starts (bullets c.args.count) c.args.writer.now);
      calls = left_is g.W.TextWrite.steps (ap bullet_calls e) (begins g.W.TextWrite.steps (bullet_calls c.args.count) c.args.writer.now);
    }

pub loop-preserved : goal.loop-preserved
unfolding lib.Utf8.encode
loop-preserved g c = record {
  way = goes_on (rest_is (bullets_left c.args.count c.loop.counter c.loop-test.true) c.loop.invariant.way) (all_taken c.in_ok-write_char.ensures.ok);
  calls = called_on g.W.TextWrite.steps (WithCharacter 8226 ∷ []) (left_is g.W.TextWrite.steps (bullet_calls_left c.args.count c.loop.counter c.loop-test.true) c.loop.invariant.calls)
      (one_taken g.W.TextWrite.steps (WithCharacter 8226) c.in_ok-write_char.ensures.called);
}

pub returns-in_err-write_char-clause-err : goal.returns-in_err-write_char-clause-err
returns-in_err-write_char-clause-err g c =
    err_with c.from_residual.result
    (stops BULLET (bullets (c.args.count - (c.loop.counter + 1))) (rest_is (bullets_left c.args.count c.loop.counter c.loop-test.true) c.loop.invariant.way) (none_taken c.in_err-write_char.ensures.err))

pub returns-in_err-write_char-clause-stopped : goal.returns-in_err-write_char-clause-stopped
returns-in_err-write_char-clause-stopped g c =
    err_with c.from_residual.result
    (broken_off g.W.TextWrite.steps (WithCharacter 8226 ∷ []) (bullet_calls (c.args.count - (c.loop.counter + 1)))
    (left_is g.W.TextWrite.steps (bullet_calls_left c.args.count c.loop.counter c.loop-test.true) c.loop.invariant.calls)
    (one_failed g.W.TextWrite.steps (WithCharacter 8226) c.in_err-write_char.ensures.called))

pub returns-clause-ok : goal.returns-clause-ok
returns-clause-ok g c = ends (rest_is (no_bullets c.args.count c.loop.counter c.loop-test.false) c.loop.invariant.way)

pub returns-clause-called : goal.returns-clause-called
returns-clause-called g c = all_called g.W.TextWrite.steps (left_is g.W.TextWrite.steps (no_bullet_calls c.args.count c.loop.counter c.loop-test.false) c.loop.invariant.calls)
