use Rattle.std.proofs.Common.{ap, sym}
use Rattle.texts.specs.RangeCuts.{located, characters_left}
use Rattle.read.specs.Lines.{mark, marks}
use Rattle.read.specs.Spans.{span_of}
use Rattle.read.proofs.Following.{starts, rest_is, goes_on, ends}
use Rattle.read.proofs.Located.{next_marks}
use Rattle.read.proofs.reading.tell_marks.Goals as goal

pub loop-character-init : goal.loop-character-init
loop-character-init g c = starts (g.O.Write.contents c.args.out.now) (marks (span_of c.args.selected) c.args.at (characters_left c.args.characters))

pub loop-character-preserved : goal.loop-character-preserved
loop-character-preserved g c =
    let s = span_of c.args.selected in
    let l = located c.in-Some.character in
    let left = characters_left c.next.new.self in
    rest_is (ap (λ k. marks s k left) (sym c.in_ok-index.ensures.after))
    (goes_on (mark s c.loop-character.index) (rest_is (next_marks s c.loop-character.index (characters_left c.loop-character.left) left l c.in-Some.ensures.steps) c.loop-character.invariant) c.in_ok-index.ensures.printed)

pub returns : goal.returns
returns g c = ends (rest_is (ap (marks (span_of c.args.selected) c.loop-character.index) c.in_default.ensures.steps.0) c.loop-character.invariant)
