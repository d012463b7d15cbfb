use Rattle.std.proofs.Common.{◌≡◌, ◌<◌, ◌^◌, length}
use Rattle.texts.specs.RangeCuts.{characters_left}
use Rattle.read.specs.Shown.{further}
use Rattle.read.proofs.reading.shown.count.Given as goal

abbrev pub decreases-loop-character : goal.decreases-loop-character
decreases-loop-character l = length (characters_left l.left)

-- those so far, and the others are further
abbrev pub invariant-loop-character : goal.invariant-loop-character
invariant-loop-character l = record {
  low : l.count < 2 ^ 64;
  counted : further l.count (length (characters_left l.left)) ≡ further 0 (length (characters_left l.fn.characters));
}
