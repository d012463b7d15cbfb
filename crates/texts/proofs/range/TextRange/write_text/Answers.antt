use Rattle.std.proofs.Common.{ap}
use Rattle.std.specs.List.{flat_map}
use Rattle.model.specs.Ranges.{piece_text, pieces, text_of}
use Rattle.model.proofs.Text.Secrets.{one_text}
use Rattle.views.specs.Nodes.{world_at, id_at}
use Rattle.text_boundaries.specs.RunNumbers.{number_in}
use Rattle.texts.specs.TextRanges.{text_in, range_at}
use Rattle.texts.specs.Pieces.{pieces_past}
use Rattle.texts.specs.PieceTexts.{shown_piece}
use Rattle.texts.proofs.PieceSteps.{pieces_from, as_next, part_there, texts_left, shown_first}
use Rattle.texts.specs.TextCalls.{part_calls, range_calls}
use Rattle.texts.proofs.PieceCalls.{calls_with, calls_left, called_first}
use Rattle.views.proofs.Calling.{begins, called_on, broken_off, all_called, left_is}
use Rattle.views.proofs.Writing.{starts, goes_on, stops, ends, rest_is, text_is, err_with}
use Rattle.texts.proofs.range.TextRange.write_text.Goals as goal

pub loop-range-init : goal.loop-range-init
loop-range-init g c =
    let r = c.args.self.now in
    record {
      there = as_next r (pieces (text_in r) (range_at r)) c.first_and_last.result.0 c.first_and_last.ensures.first;
      calls = left_is g.W.TextWrite.steps (calls_left r (pieces (text_in r) (range_at r)) c.first_and_last.result.0 c.first_and_last.ensures.first) (begins g.W.TextWrite.steps (range_calls r) c.args.writer.now);
      way = rest_is (texts_left r (pieces (text_in r) (range_at r)) c.first_and_last.result.0 c.first_and_last.ensures.first) (starts (text_of (text_in r) (range_at r)) c.args.writer.now);
    }

pub write-requires-clause-part : goal.write-requires-clause-part
write-requires-clause-part g c = part_there c.args.self.now (pieces_from c.args.self.now c.loop-range.piece) c.loop-range.piece c.loop-range.invariant.there

pub returns-in_err-write-clause-err : goal.returns-in_err-write-clause-err
returns-in_err-write-clause-err g c =
    let r = c.args.self.now in
    let p = c.loop-range.piece in
    err_with c.from_residual.result
    (stops (shown_piece c.needs_masking-masked.result p) (flat_map (piece_text (text_in r)) (pieces_past (text_in r) (range_at r) (number_in p.run)))
    (rest_is (shown_first r p c.needs_masking-masked.result c.loop-range.invariant.there c.needs_masking-masked.ensures) c.loop-range.invariant.way) c.in_err-write.ensures.err)

pub loop-range-preserved : goal.loop-range-preserved
loop-range-preserved g c =
    let r = c.args.self.now in
    let p = c.loop-range.piece in
    let left = pieces_past (text_in r) (range_at r) (number_in p.run) in
    record {
      there = as_next r left c.in-Some.next c.in-Some.ensures;
      calls = left_is g.W.TextWrite.steps (calls_left r left c.in-Some.next c.in-Some.ensures)
          (called_on g.W.TextWrite.steps (part_calls c.needs_masking-masked.result p)
          (left_is g.W.TextWrite.steps (called_first r p c.needs_masking-masked.result c.loop-range.invariant.there c.needs_masking-masked.ensures) c.loop-range.invariant.calls) c.in_ok-write.ensures.called);
      way = rest_is (texts_left r left c.in-Some.next c.in-Some.ensures)
          (goes_on (rest_is (shown_first r p c.needs_masking-masked.result c.loop-range.invariant.there c.needs_masking-masked.ensures) c.loop-range.invariant.way) c.in_ok-write.ensures.ok);
    }

pub returns-in_default-clause-ok : goal.returns-in_default-clause-ok
returns-in_default-clause-ok g c =
    let r = c.args.self.now in
    let p = c.loop-range.piece in
    ends (rest_is (ap (flat_map (piece_text (text_in r))) c.in_default.ensures)
    (goes_on (rest_is (shown_first r p c.needs_masking-masked.result c.loop-range.invariant.there c.needs_masking-masked.ensures) c.loop-range.invariant.way) c.in_ok-write.ensures.ok))

pub returns-in_err-write-clause-stopped : goal.returns-in_err-write-clause-stopped
returns-in_err-write-clause-stopped g c =
    let r = c.args.self.now in
    let p = c.loop-range.piece in
    err_with c.from_residual.result
    (broken_off g.W.TextWrite.steps (part_calls c.needs_masking-masked.result p) (calls_with r (pieces_past (text_in r) (range_at r) (number_in p.run)))
    (left_is g.W.TextWrite.steps (called_first r p c.needs_masking-masked.result c.loop-range.invariant.there c.needs_masking-masked.ensures) c.loop-range.invariant.calls) c.in_err-write.ensures.stopped)

pub returns-in_default-clause-called : goal.returns-in_default-clause-called
returns-in_default-clause-called g c =
    let r = c.args.self.now in
    let p = c.loop-range.piece in
    all_called g.W.TextWrite.steps (left_is g.W.TextWrite.steps (ap (calls_with r) c.in_default.ensures)
    (called_on g.W.TextWrite.steps (part_calls c.needs_masking-masked.result p)
    (left_is g.W.TextWrite.steps (called_first r p c.needs_masking-masked.result c.loop-range.invariant.there c.needs_masking-masked.ensures) c.loop-range.invariant.calls) c.in_ok-write.ensures.called))

-- in a world of equal shape the text is the same
pub returns-in_default-clause-secret : goal.returns-in_default-clause-secret
returns-in_default-clause-secret g c = λ v same.
    let r = c.args.self.now in
    text_is (ap (λ t. text_of t (range_at r)) (one_text (id_at r.root) (world_at r.root) v same)) (returns-in_default-clause-ok g c)
