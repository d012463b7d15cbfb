use Rattle.std.proofs.Common.{sym, subst}
use Rattle.texts.proofs.PieceBoxes.{AreBoxesWith, next_box}
use Rattle.texts.proofs.range.TextRange.bounding_boxes.Goals as goal

pub loop-shown-preserved : goal.loop-shown-preserved
loop-shown-preserved c =
    let next = c.in-Some-next_piece.next in
    record {
      same = c.in-Some-next_piece.ensures.same;
      reached = c.in-Some-next_piece.ensures.reached;
      so_far = subst (λ boxes. AreBoxesWith c.args.self.now boxes next) (sym c.in_ok-push.ensures.items)
          (next_box c.args.self.now c.loop-shown.boxes.items c.loop-shown.piece c.loop-shown.invariant.same c.loop-shown.invariant.so_far c.in-Some.shown c.in-Some.ensures next c.in-Some-next_piece.ensures.is);
    }
