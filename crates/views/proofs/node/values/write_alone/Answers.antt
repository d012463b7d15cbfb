use Rattle.std.proofs.Common.{sym, ◌∙◌, ap, length}
use Rattle.std.specs.Prelude.{if◌then◌else◌, chars}
use Rattle.schema.specs.TextCalls.{WithText}
use Rattle.views.specs.ValueCalls.{text_calls}
use Rattle.views.specs.Writes.{bullet_calls}
use Rattle.views.proofs.Calling.{calls_as, one_call}
use Rattle.views.proofs.node.values.write_alone.Goals as goal

pub returns-then-has_one_scalar-clause-calls : goal.returns-then-has_one_scalar-clause-calls
returns-then-has_one_scalar-clause-calls g c =
    let v = c.args.value.now in
    calls_as g.W.TextWrite.steps c.args.writer.now c.write_str.new.self c.write_str.result
    (ap (λ b. if b then text_calls v else bullet_calls (length (chars v))) (sym c.if-has_one_scalar.true ∙ c.has_one_scalar.ensures))
    (one_call g.W.TextWrite.steps c.args.writer.now c.write_str.new.self (WithText v) c.write_str.result c.write_str.ensures.called)

pub returns-clause-calls : goal.returns-clause-calls
returns-clause-calls g c =
    let v = c.args.value.now in
    calls_as g.W.TextWrite.steps c.args.writer.now c.write_bullets.new.writer c.write_bullets.result
    (ap bullet_calls c.scalar_count.ensures ∙ ap (λ b. if b then text_calls v else bullet_calls (length (chars v))) (sym c.if-has_one_scalar.false ∙ c.has_one_scalar.ensures))
    (record { called = c.write_bullets.ensures.called; stopped = c.write_bullets.ensures.stopped })
