use Rattle.std.proofs.Common.{ap, ◌∙◌}
use Rattle.model.specs.Moves.{utf16_len}
use Rattle.texts.specs.RangeCuts.{located}
use Rattle.read.specs.Shown.{further}
use Rattle.read.proofs.Written.{span_written}
use Rattle.read.proofs.reading.tell_span.Goals as goal

pub returns-clause-printed : goal.returns-clause-printed
returns-clause-printed g c =
    span_written (g.O.Write.contents c.args.out.now) (g.O.Write.contents c.write.new.self) (g.O.Write.contents c.write_text.new.out) c.args.at c.saturating_add-after.result (located c.args.range) c.deref-2.result.now
    (c.saturating_add-after.ensures ∙ ap (further c.args.at) (c.utf16_count.ensures ∙ ap utf16_len (c.deref.ensures ∙ c.in_ok-written.ensures)))
    (c.deref-2.ensures ∙ c.in_ok-written.ensures) c.in_ok-write.ensures.bytes c.in_ok-write_text.ensures
