use Rattle.std.proofs.Common.{length}
use Rattle.texts.specs.Pieces.{IsNextPiece}
use Rattle.texts.specs.Traversals.{longest, IsEnough}
use Rattle.texts.proofs.PieceSteps.{pieces_from}
use Rattle.texts.proofs.Passing.{IsPassing}
use Rattle.texts.proofs.range.TextRange.pass.Given as goal

-- the calls that are still to come are the rest of all of them
abbrev pub invariant-loop-answer : goal.invariant-loop-answer
invariant-loop-answer g l = record {
  callable : goal.F-IsAlwaysCallable g l.f;
  there : IsNextPiece l.fn.self (pieces_from l.fn.self l.piece) l.piece;
  enough : IsEnough l.fn.masked l.fn.bullets (longest (pieces_from l.fn.self l.piece));
  passing : IsPassing g.F.FnMut l.fn.self (pieces_from l.fn.self l.piece) l.fn.f l.f;
}

abbrev pub decreases-loop-answer : goal.decreases-loop-answer
decreases-loop-answer g l = length (pieces_from l.fn.self l.piece)
