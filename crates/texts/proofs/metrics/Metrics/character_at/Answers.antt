use Rattle.std.proofs.Common.{◌≡◌, ◌+◌, ◌-◌, ◌∙◌, sym, ap, arith}
use Rattle.std.specs.Int.{w128}
use Rattle.std.proofs.lemmas.Int.{to_z-of_z}
use Rattle.model.specs.Points.{character_at}
use Rattle.texts.specs.Measures.{measures}
use Rattle.texts.proofs.Along.{in_all, lies_here, lies_before}
use Rattle.texts.proofs.metrics.Metrics.character_at.Goals as goal

pub loop-left-init : goal.loop-left-init
loop-left-init c = record { within = omega (arith, c.min-left.ensures); sought = in_all (measures c.args.self) _ c.min-left.result c.min-left.ensures }

pub returns-then-lies_at-clause-exact : goal.returns-then-lies_at-clause-exact
returns-then-lies_at-clause-exact c =
    let left = c.loop-left.left in
    let one : left ≡ left - 1 + 1 = omega (arith, c.loop-left-test.true) in
    sym (c.loop-left.invariant.sought ∙ lies_here (measures c.args.self) _ left (left - 1) one c.loop-left.invariant.within (sym c.lies_at.ensures ∙ c.if-lies_at.true))
    ∙ ap (character_at (measures c.args.self)) (to_z-of_z w128 c.args.distance c.ranges.distance)

pub loop-left-preserved : goal.loop-left-preserved
loop-left-preserved c =
    let left = c.loop-left.left in
    let one : left ≡ left - 1 + 1 = omega (arith, c.loop-left-test.true) in
    record {
      within = omega (arith, c.loop-left.invariant.within);
      sought = c.loop-left.invariant.sought ∙ lies_before (measures c.args.self) _ left (left - 1) one c.loop-left.invariant.within (sym c.lies_at.ensures ∙ c.if-lies_at.false);
    }
