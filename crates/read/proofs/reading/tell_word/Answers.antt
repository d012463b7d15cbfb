use Rattle.texts.specs.RangeCuts.{located}
use Rattle.read.specs.Spans.{span_of}
use Rattle.read.proofs.Written.{word_written}
use Rattle.read.proofs.reading.tell_word.Goals as goal

pub returns-clause-printed : goal.returns-clause-printed
returns-clause-printed g c =
    word_written (g.O.Write.contents c.args.out.now) (g.O.Write.contents c.write_all.new.self) (g.O.Write.contents c.tell_span.new.out) (g.O.Write.contents c.tell_characters.new.out) (span_of c.args.selected) c.args.at (located c.args.word)
    c.in_ok-write_all.ensures.bytes c.in_ok-after.ensures.printed c.in_ok-tell_characters.ensures
