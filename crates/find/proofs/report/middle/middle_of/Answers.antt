use Rattle.schema.specs.Boxes.{middle}
use Rattle.find.proofs.Middles.{point_found}
use Rattle.find.proofs.report.middle.middle_of.Goals as goal

pub returns : goal.returns
returns c = let r = c.args.bounds in point_found c.center.result (middle r.x0 r.x1) (middle r.y0 r.y1) c.center.ensures.value
