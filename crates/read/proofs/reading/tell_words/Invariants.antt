use Rattle.std.proofs.Common.{length}
use Rattle.texts.specs.RangeCuts.{words_left}
use Rattle.read.specs.Lines.{words_text}
use Rattle.read.specs.Spans.{span_of}
use Rattle.read.proofs.Following.{IsUnderWay}
use Rattle.read.proofs.reading.tell_words.Given as goal

abbrev pub decreases-loop-word : goal.decreases-loop-word
decreases-loop-word g l = length (words_left l.left)

-- the words before those that are left are printed
abbrev pub invariant-loop-word : goal.invariant-loop-word
invariant-loop-word g l = IsUnderWay (g.O.Write.contents l.fn.out) (g.O.Write.contents l.out) (words_text (span_of l.fn.selected) l.fn.at (words_left l.fn.words)) (words_text (span_of l.fn.selected) l.index (words_left l.left))
