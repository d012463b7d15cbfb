use Rattle.std.proofs.Common.{arith}
use Rattle.texts.specs.Measures.{measures}
use Rattle.texts.proofs.PointPlaces.{measured_within}
use Rattle.texts.proofs.points.index_at.Goals as goal

pub returns-in-Some-character_at-clause-within : goal.returns-in-Some-character_at-clause-within
returns-in-Some-character_at-clause-within c =
    let few = measured_within c.args.run (measures c.in-Some-metrics_of.metrics) c.requires c.in-Some-metrics_of.ensures in
    omega (arith, few, c.in-Some-character_at.ensures.within)
