use Rattle.std.proofs.Common.{◌∙◌, sym}
use Rattle.model.specs.Ranges.{pieces}
use Rattle.texts.specs.TextRanges.{text_in, range_at}
use Rattle.texts.proofs.PieceSteps.{pieces_from}
use Rattle.texts.proofs.LookSteps.{world_of_view, passes_first, look_starts, look_stops, look_ends, look_goes_on}
use Rattle.texts.proofs.range.TextRange.sample.Goals as goal

pub loop-piece-init : goal.loop-piece-init
loop-piece-init c = look_starts c.args.self c.args.what c.view-node.result c.first_and_last.result.0 c.first_and_last.ensures.first

pub are_same-requires : goal.are_same-requires
are_same-requires c =
    let r = c.args.self in
    world_of_view r (pieces_from r c.loop-piece.piece) c.loop-piece.piece c.view.result c.loop-piece.invariant.there c.view.ensures.world
    ∙ sym (world_of_view r (pieces (text_in r) (range_at r)) c.first_and_last.result.0 c.view-node.result c.first_and_last.ensures.first c.view-node.ensures.world)

pub next_piece-requires : goal.next_piece-requires
next_piece-requires c = record { same = c.loop-piece.invariant.there.same; reached = c.loop-piece.invariant.there.reached; ends = c.first_and_last.ensures.last }

pub returns-then-not-are_same : goal.returns-then-not-are_same
returns-then-not-are_same c =
    let r = c.args.self in
    let at = world_of_view r (pieces (text_in r) (range_at r)) c.first_and_last.result.0 c.view-node.result c.first_and_last.ensures.first c.view-node.ensures.world in
    look_stops r c.args.what c.view-node.result at c.loop-piece.piece c.loop-piece.invariant c.view.result c.are_same.result c.view.ensures.is c.are_same.ensures c.if-not-are_same.true
    (passes_first r c.first_and_last.result.0 c.view-node.result c.first_and_last.ensures.first c.view-node.ensures.is)

pub loop-piece-preserved : goal.loop-piece-preserved
loop-piece-preserved c =
    let r = c.args.self in
    let at = world_of_view r (pieces (text_in r) (range_at r)) c.first_and_last.result.0 c.view-node.result c.first_and_last.ensures.first c.view-node.ensures.world in
    look_goes_on r c.args.what c.view-node.result at c.loop-piece.piece c.loop-piece.invariant c.view.result c.are_same.result c.view.ensures.is c.are_same.ensures c.if-not-are_same.false c.in-Some.next c.in-Some.ensures

pub returns-in_default : goal.returns-in_default
returns-in_default c =
    let r = c.args.self in
    let at = world_of_view r (pieces (text_in r) (range_at r)) c.first_and_last.result.0 c.view-node.result c.first_and_last.ensures.first c.view-node.ensures.world in
    record {
      world = at;
      alike = look_ends r c.args.what c.view-node.result at c.loop-piece.piece c.loop-piece.invariant c.view.result c.are_same.result c.view.ensures.is c.are_same.ensures c.if-not-are_same.false c.in_default.ensures;
    }
