use Rattle.std.proofs.Common.{false, ◌≡◌, None, length, slice_index_or, refl, ap, subst, ◌∙◌, arith}
use Rattle.model.specs.declared.FullNodeId.{FullNodeId}
use Rattle.tree_plan.specs.declared.passes.Arrival.{Arrival}
use Rattle.tree_plan.specs.declared.passes.Settled.{Settled}
use Rattle.tree_plan.specs.Settling.{IsSettledAt, SettlesOne}
use Rattle.tree_plan.specs.Cases.{sent}
use Rattle.tree_plan.proofs.IdMaps.{empty_has, none_done, read_step, done_step, done_weaker, done_all}
use Rattle.tree_plan.proofs.SettlingSteps.{settles_start, settled_stays, settlement}
use Rattle.tree_plan.proofs.settling.settle.Goals as goal

-- what a read past the end would give
abbrev nothing : FullNodeId × Arrival
nothing = (record { tree = 0; node = record { 0 = 0 } }, record { spot = None; is_shifted = false })

pub loop-item-init : goal.loop-item-init
loop-item-init g c =
    let w = g.L.LookUps.world c.args.look_ups.now in
    let u = sent c.args.case.now in
    let a : Settled = record { doubles = c.new.result; adopters = c.new-2.result; has_moved = false } in
    record {
      world = refl;
      count = (omega arith, omega arith);
      so_far = settles_start w u a c.new.ensures.items (empty_has c.new-2.result c.new-2.ensures.empty);
      done = none_done c.args.case.now.compared.now.entered (λ id x. IsSettledAt w u id x.spot a);
    }

pub settle_one-requires-clause-arrived : goal.settle_one-requires-clause-arrived
settle_one-requires-clause-arrived g c =
    read_step c.args.case.now.compared.now.entered c.entries-item-items.ensures.ascends c.entries-item-items.result.now c.entries-item-items.ensures.all c.loop-item.item-index nothing c.loop-item-test.true

pub loop-item-preserved : goal.loop-item-preserved
loop-item-preserved g c =
    let w = g.L.LookUps.world c.args.look_ups.now in
    let u = sent c.args.case.now in
    let m = c.args.case.now.compared.now.entered in
    let k = c.loop-item.item-index in
    let e = slice_index_or c.entries-item-items.result.now k nothing in
    let a = c.loop-item.settled in
    let b = c.settle_one.new.settled in
    let one : SettlesOne w u e.0 e.1.spot a b = subst (λ v. SettlesOne v u e.0 e.1.spot a b) c.loop-item.invariant.world c.in_ok-settle_one.ensures.ok in
    record {
      world = c.settle_one.ensures.looks.0 ∙ c.loop-item.invariant.world;
      count = (omega (arith, c.settle_one.ensures.looks.1.0, c.loop-item.invariant.count.0), omega (arith, c.settle_one.ensures.looks.1.1, c.loop-item.invariant.count.1));
      so_far = one.so_far;
      done = done_step m (λ id x. IsSettledAt w u id x.spot b) c.entries-item-items.result.now c.entries-item-items.ensures.all k nothing c.loop-item-test.true
          (done_weaker m (λ id x. IsSettledAt w u id x.spot a) k c.loop-item.invariant.done (λ id x. IsSettledAt w u id x.spot b) (λ id x. settled_stays w u a b one.keeps id x.spot)) one.here;
    }

pub returns-clause-ok : goal.returns-clause-ok
returns-clause-ok g c =
    let w = g.L.LookUps.world c.args.look_ups.now in
    let u = sent c.args.case.now in
    let m = c.args.case.now.compared.now.entered in
    let same : length c.entries-item-items.result.now ≡ length m = ap length c.entries-item-items.ensures.all in
    settlement w u c.args.case.now.compared.now c.loop-item.settled c.requires.case.comparison c.loop-item.invariant.so_far
    (done_all m (λ id x. IsSettledAt w u id x.spot c.loop-item.settled) c.loop-item.item-index (omega (arith, c.loop-item-test.false)) c.loop-item.invariant.done)
