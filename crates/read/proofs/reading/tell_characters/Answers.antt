use Rattle.std.proofs.Common.{subst}
use Rattle.std.specs.Io.KnownBytes.{Appends}
use Rattle.texts.specs.Cuts.{character_ranges}
use Rattle.texts.specs.RangeCuts.{located}
use Rattle.read.specs.Lines.{marks}
use Rattle.read.specs.Shown.{parts_at}
use Rattle.read.specs.Spans.{span_of}
use Rattle.read.proofs.Written.{marks_written}
use Rattle.read.proofs.reading.tell_characters.Goals as goal

pub returns : goal.returns
returns g c =
    let s = span_of c.args.selected in
    let l = located c.args.word in
    let begun = g.O.Write.contents c.write_all.new.self in
    let marked = g.O.Write.contents c.tell_marks.new.out in
    marks_written (g.O.Write.contents c.args.out.now) begun marked (g.O.Write.contents c.write_all-2.new.self) s c.args.at l (marks s c.args.at (parts_at character_ranges l)) c.in_ok-write_all.ensures.bytes
    (subst (λ ls. Appends begun marked (marks s c.args.at ls)) c.characters.ensures c.in_ok-tell_marks.ensures) c.in_ok-write_all-2.ensures.bytes
