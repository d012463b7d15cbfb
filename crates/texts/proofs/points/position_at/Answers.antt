use Rattle.std.proofs.Common.{sym}
use Rattle.texts.proofs.PointPlaces.{at_inside}
use Rattle.texts.proofs.points.position_at.Goals as goal

pub position_beside-requires-clause-outside : goal.position_beside-requires-clause-outside
position_beside-requires-clause-outside c = sym c.in_default.ensures.found

pub returns : goal.returns
returns c = record {
  same = c.in-Some.ensures.same;
  at = at_inside c.args.root c.args.point c.in-Some.run' c.index_at.result c.in-Some.ensures.same c.in-Some.ensures.found c.index_at.ensures.exact;
}
