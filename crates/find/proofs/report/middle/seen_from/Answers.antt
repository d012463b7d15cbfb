use Rattle.std.specs.Prelude.{◌-ℤ◌}
use Rattle.find.proofs.Middles.{point_found}
use Rattle.find.proofs.report.middle.seen_from.Goals as goal

pub returns : goal.returns
returns c = let p = c.args.point in let own = c.args.own in point_found c.moved_back.result (p.x -ℤ own.x) (p.y -ℤ own.y) c.moved_back.ensures
