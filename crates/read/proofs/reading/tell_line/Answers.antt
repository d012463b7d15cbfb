use Rattle.std.proofs.Common.{sym, subst}
use Rattle.std.specs.Io.KnownBytes.{Appends}
use Rattle.texts.specs.Cuts.{word_ranges}
use Rattle.texts.specs.LineWalks.{lines_root}
use Rattle.texts.specs.RangeCuts.{located}
use Rattle.read.specs.Lines.{words_text}
use Rattle.read.specs.Shown.{parts_at}
use Rattle.read.specs.Spans.{span_of}
use Rattle.read.proofs.Numbered.{one_printed}
use Rattle.read.proofs.Written.{line_written}
use Rattle.read.proofs.reading.tell_line.Goals as goal

pub returns-clause-printed : goal.returns-clause-printed
returns-clause-printed g c =
    let s = span_of c.args.selected in
    let line = c.in-Some.line in
    let before = g.O.Write.contents c.args.out.now in
    let told = g.O.Write.contents c.tell_span.new.out in
    let end = g.O.Write.contents c.tell_words.new.out in
    subst (Appends before end) (sym (one_printed (lines_root c.args.lines.now) s c.args.at c.args.number line c.in-Some.ensures.found))
    (line_written before (g.O.Write.contents c.write.new.self) told end s c.args.at (located line) c.args.number (parts_at word_ranges (located line)) c.in_ok-write.ensures.bytes c.in_ok-after.ensures.printed
    (subst (λ ls. Appends told end (words_text s c.args.at ls)) c.words.ensures c.in_ok-tell_words.ensures))
