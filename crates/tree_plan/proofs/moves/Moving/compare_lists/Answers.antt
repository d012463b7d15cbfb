use Rattle.std.proofs.Common.{rules, ◌≤◌, length, arith}
use Rattle.std.proofs.lemmas.List.{length-map}
use Rattle.model.specs.World.{in_tree}
use Rattle.tree_plan.specs.Comparisons.{ids_before, ids_after}
use Rattle.tree_plan.proofs.MoveSteps.{compares_zero, compares_next, compares_all}
use Rattle.tree_plan.proofs.moves.Moving.compare_lists.Goals as goal

pub loop-index-init : goal.loop-index-init
loop-index-init c = let lists = c.args.lists.now in compares_zero lists.parent (ids_before lists) (ids_after lists) c.args.self.now

pub loop-index-preserved : goal.loop-index-preserved
loop-index-preserved c =
    let lists = c.args.lists.now in
    compares_next lists.parent (ids_before lists) (ids_after lists) c.loop-index.index c.args.self.now c.loop-index.self c.compare_at.new.self c.loop-index.invariant (c.in_ok-compare_at.ensures.ok (search rules))

pub returns-clause-ok : goal.returns-clause-ok
returns-clause-ok c =
    let lists = c.args.lists.now in
    let old : length (ids_before lists) ≤ c.loop-index.index = omega (arith, length-map lists.before.now (in_tree lists.parent.tree)) in
    let new : length (ids_after lists) ≤ c.loop-index.index = omega (arith, length-map lists.after.now (in_tree lists.parent.tree)) in
    λ _. compares_all lists.parent (ids_before lists) (ids_after lists) c.loop-index.index c.args.self.now c.loop-index.self old new c.loop-index.invariant
