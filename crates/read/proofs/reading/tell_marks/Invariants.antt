use Rattle.std.proofs.Common.{length}
use Rattle.texts.specs.RangeCuts.{characters_left}
use Rattle.read.specs.Lines.{marks}
use Rattle.read.specs.Spans.{span_of}
use Rattle.read.proofs.Following.{IsUnderWay}
use Rattle.read.proofs.reading.tell_marks.Given as goal

abbrev pub decreases-loop-character : goal.decreases-loop-character
decreases-loop-character g l = length (characters_left l.left)

-- the characters before those that are left are printed
abbrev pub invariant-loop-character : goal.invariant-loop-character
invariant-loop-character g l = IsUnderWay (g.O.Write.contents l.fn.out) (g.O.Write.contents l.out) (marks (span_of l.fn.selected) l.fn.at (characters_left l.fn.characters)) (marks (span_of l.fn.selected) l.index (characters_left l.left))
