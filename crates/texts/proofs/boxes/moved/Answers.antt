use Rattle.std.proofs.Common.{arith}
use Rattle.std.proofs.lemmas.Int.{ints}
use Rattle.model.specs.Geometry.{moved_rect}
use Rattle.texts.proofs.PieceBoxes.{same_rect}
use Rattle.texts.proofs.boxes.moved.Goals as goal

pub returns : goal.returns
returns c =
    same_rect _ _ _ _ (moved_rect c.args.rect c.args.by)
    (omega (arith, ints, c.plus.ensures, c.requires.near.x0.0, c.requires.near.x0.1, c.requires.across.0, c.requires.across.1))
    (omega (arith, ints, c.plus-2.ensures, c.requires.near.y0.0, c.requires.near.y0.1, c.requires.along.0, c.requires.along.1))
    (omega (arith, ints, c.plus-3.ensures, c.requires.near.x1.0, c.requires.near.x1.1, c.requires.across.0, c.requires.across.1))
    (omega (arith, ints, c.plus-4.ensures, c.requires.near.y1.0, c.requires.near.y1.1, c.requires.along.0, c.requires.along.1))
