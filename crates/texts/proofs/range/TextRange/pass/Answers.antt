use Rattle.std.proofs.Common.{of_calls}
use Rattle.text_boundaries.specs.RunNumbers.{number_in}
use Rattle.texts.specs.TextRanges.{text_in, range_at}
use Rattle.texts.specs.Pieces.{pieces_past}
use Rattle.texts.proofs.PieceSteps.{pieces_from, as_next, part_there}
use Rattle.texts.proofs.Passing.{enough_past, call_is, passed_with, passed_on, passed_all}
use Rattle.texts.proofs.range.TextRange.pass.Goals as goal

pub shown-requires-clause-part : goal.shown-requires-clause-part
shown-requires-clause-part g c = part_there c.args.self (pieces_from c.args.self c.loop-answer.piece) c.loop-answer.piece c.loop-answer.invariant.there

pub returns-in-Some : goal.returns-in-Some
returns-in-Some g c =
    passed_with g.F.FnMut c.args.self c.loop-answer.piece c.loop-answer.invariant.passing c.in-Some.answer
    (call_is g.F.FnMut c.args.self c.in-Some.ensures c.loop-answer.piece c.args.masked c.loop-answer.invariant.there c.requires.masking c.view-view.ensures.world c.view-view.ensures.is c.shown.ensures)

pub returns-in_default-next_piece : goal.returns-in_default-next_piece
returns-in_default-next_piece g c =
    passed_all g.F.FnMut c.args.self c.loop-answer.piece c.loop-answer.invariant.passing c.in_default-next_piece.ensures
    (call_is g.F.FnMut c.args.self c.in_default.ensures c.loop-answer.piece c.args.masked c.loop-answer.invariant.there c.requires.masking c.view-view.ensures.world c.view-view.ensures.is c.shown.ensures)

pub loop-answer-preserved : goal.loop-answer-preserved
loop-answer-preserved g c =
    let r = c.args.self in
    let p = c.loop-answer.piece in
    let left = pieces_past (text_in r) (range_at r) (number_in p.run) in
    let next = c.in-Some-next_piece.next in
    record {
      callable = search of_calls;
      there = as_next r left next c.in-Some-next_piece.ensures;
      enough = enough_past r p next c.in-Some-next_piece.ensures c.loop-answer.invariant.enough;
      passing = passed_on g.F.FnMut r p c.loop-answer.invariant.passing (pieces_from r next) c.in-Some-next_piece.ensures.is
          (call_is g.F.FnMut r c.in_default.ensures p c.args.masked c.loop-answer.invariant.there c.requires.masking c.view-view.ensures.world c.view-view.ensures.is c.shown.ensures);
    }
