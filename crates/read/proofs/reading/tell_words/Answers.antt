use Rattle.std.proofs.Common.{ap, sym}
use Rattle.texts.specs.RangeCuts.{located, words_left}
use Rattle.read.specs.Lines.{word_text, words_text}
use Rattle.read.specs.Spans.{span_of}
use Rattle.read.proofs.Following.{starts, rest_is, goes_on, ends}
use Rattle.read.proofs.Located.{next_words}
use Rattle.read.proofs.reading.tell_words.Goals as goal

pub loop-word-init : goal.loop-word-init
loop-word-init g c = starts (g.O.Write.contents c.args.out.now) (words_text (span_of c.args.selected) c.args.at (words_left c.args.words))

pub loop-word-preserved : goal.loop-word-preserved
loop-word-preserved g c =
    let s = span_of c.args.selected in
    let l = located c.in-Some.word in
    let left = words_left c.next.new.self in
    rest_is (ap (λ k. words_text s k left) (sym c.in_ok-index.ensures.after))
    (goes_on (word_text s c.loop-word.index l) (rest_is (next_words s c.loop-word.index (words_left c.loop-word.left) left l c.in-Some.ensures.steps) c.loop-word.invariant) c.in_ok-index.ensures.printed)

pub returns : goal.returns
returns g c = ends (rest_is (ap (words_text (span_of c.args.selected) c.loop-word.index) c.in_default.ensures.steps.0) c.loop-word.invariant)
