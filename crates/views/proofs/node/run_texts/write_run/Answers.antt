use Rattle.std.proofs.Common.{sym, ◌∙◌, ap}
use Rattle.schema.specs.TextCalls.{WithText}
use Rattle.views.specs.Runs.{sent_of}
use Rattle.views.specs.ValueCalls.{text_calls, run_calls}
use Rattle.views.specs.Writes.{bullet_calls}
use Rattle.views.proofs.Calling.{calls_as, one_call}
use Rattle.views.proofs.node.run_texts.write_run.Goals as goal

pub returns-then-masked-clause-calls : goal.returns-then-masked-clause-calls
returns-then-masked-clause-calls g c =
    calls_as g.W.TextWrite.steps c.args.writer.now c.write_bullets.new.writer c.write_bullets.result
    (ap bullet_calls c.character_count.ensures ∙ ap (λ b. run_calls b (sent_of c.args.run)) (sym c.if-masked.true))
    (record { called = c.write_bullets.ensures.called; stopped = c.write_bullets.ensures.stopped })

pub returns-clause-calls : goal.returns-clause-calls
returns-clause-calls g c =
    calls_as g.W.TextWrite.steps c.args.writer.now c.write_str.new.self c.write_str.result
    (ap text_calls c.value.ensures ∙ ap (λ b. run_calls b (sent_of c.args.run)) (sym c.if-masked.false))
    (one_call g.W.TextWrite.steps c.args.writer.now c.write_str.new.self (WithText c.value.result.now) c.write_str.result c.write_str.ensures.called)
