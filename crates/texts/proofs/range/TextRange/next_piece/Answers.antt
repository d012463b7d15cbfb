use Rattle.texts.proofs.RangeRuns.{none_after, next_part}
use Rattle.texts.proofs.range.TextRange.next_piece.Goals as goal

pub returns-then-is_same : goal.returns-then-is_same
returns-then-is_same c = none_after c.args.self c.args.run c.args.last c.requires.same c.requires.ends c.id.result c.is_same.result c.id.ensures c.is_same.ensures c.if-is_same.true

pub returns : goal.returns
returns c =
    next_part c.args.self c.args.run c.args.last c.requires.same c.requires.ends c.id.result c.is_same.result c.id.ensures c.is_same.ensures
    c.in_ok-next.next c.piece_in.result c.if-is_same.false c.requires.reached c.in_ok-next.ensures c.piece_in.ensures.run c.piece_in.ensures.is
