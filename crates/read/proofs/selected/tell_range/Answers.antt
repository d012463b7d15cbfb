use Rattle.std.proofs.Common.{◌∙◌}
use Rattle.texts.specs.RangeCuts.{located}
use Rattle.read.proofs.Written.{ends_written}
use Rattle.read.proofs.selected.tell_range.Goals as goal

pub returns-clause-printed : goal.returns-clause-printed
returns-clause-printed g c =
    ends_written (g.O.Write.contents c.args.out.now) (g.O.Write.contents c.write.new.self) (g.O.Write.contents c.write_text.new.out) c.args.anchor c.args.focus (located c.args.range) c.deref.result.now
    (c.deref.ensures ∙ c.in_ok-written.ensures) c.in_ok-write.ensures.bytes c.in_ok-write_text.ensures
