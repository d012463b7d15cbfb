use Rattle.std.proofs.Common.{rules, ◌≡◌, ◌∙◌, Some, None, length, slice_index_or, refl, ap, subst, arith}
use Rattle.model.specs.World.{World, Place}
use Rattle.model.specs.declared.FullNodeId.{FullNodeId}
use Rattle.tree_changes.specs.declared.decision.NodeChange.{NodeChange}
use Rattle.tree_changes.specs.declared.decision.NodeChange.TheVariants.{Put}
use Rattle.tree_plan.specs.Moves.{came_to, HasWay}
use Rattle.tree_plan.proofs.IdMaps.{none_done, done_step, done_all}
use Rattle.tree_plan.proofs.moves.have_ways.Goals as goal

-- what a read past the end would give
abbrev nothing : FullNodeId × NodeChange
nothing = (record { tree = 0; node = record { 0 = 0 } }, Put None None)

pub loop-item-init : goal.loop-item-init
loop-item-init g c =
    let w : World = g.L.LookUps.world c.args.look_ups.now in
    let v = c.args.moved.now in
    record {
      world = refl;
      count = omega arith;
      least = omega arith;
      done = none_done v.rows.now (λ id x. (p : Place) → came_to x ≡ Some p → HasWay w v.rows.now v.left.now v.root id p);
    }

pub loop-item-preserved : goal.loop-item-preserved
loop-item-preserved g c =
    let w : World = g.L.LookUps.world c.args.look_ups.now in
    let v = c.args.moved.now in
    let i = c.loop-item.invariant in
    let k = c.loop-item.item-index in
    let e = slice_index_or c.entries-item-items.result.now k nothing in
    let here : (p : Place) → came_to e.1 ≡ Some p → HasWay w v.rows.now v.left.now v.root e.0 p =
    subst (λ (x : World). (p : Place) → came_to e.1 ≡ Some p → HasWay x v.rows.now v.left.now v.root e.0 p) i.world (c.has_way.ensures.way (search rules)) in
    record {
      world = c.has_way.ensures.world ∙ i.world;
      count = omega (arith, c.has_way.ensures.count, i.count);
      least = omega (arith, c.has_way.ensures.least, i.least);
      done = done_step v.rows.now (λ id x. (p : Place) → came_to x ≡ Some p → HasWay w v.rows.now v.left.now v.root id p) c.entries-item-items.result.now c.entries-item-items.ensures.all k nothing c.loop-item-test.true i.done here;
    }

pub returns-clause-ways : goal.returns-clause-ways
returns-clause-ways g c =
    let w : World = g.L.LookUps.world c.args.look_ups.now in
    let v = c.args.moved.now in
    let same : length c.entries-item-items.result.now ≡ length v.rows.now = ap length c.entries-item-items.ensures.all in
    λ _ id x p is came. done_all v.rows.now (λ id x. (p : Place) → came_to x ≡ Some p → HasWay w v.rows.now v.left.now v.root id p) c.loop-item.item-index (omega (arith, c.loop-item-test.false)) c.loop-item.invariant.done id x is p came
