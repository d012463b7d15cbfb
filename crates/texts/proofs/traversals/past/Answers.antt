use Rattle.std.proofs.Common.{arith, sym}
use Rattle.texts.proofs.CutPieces.{cut_at}
use Rattle.texts.proofs.traversals.past.Goals as goal

pub split_at-requires : goal.split_at-requires
split_at-requires c = cut_at c.loop-length.rest.now c.args.lengths.now c.loop-length.length-index c.from.result (omega arith) (sym c.from.ensures) c.loop-length.invariant.cut c.loop-length.invariant.text
