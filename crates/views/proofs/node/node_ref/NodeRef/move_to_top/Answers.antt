use Rattle.std.proofs.Common.{◌∙◌, sym, refl, subst, ap}
use Rattle.model.specs.Geometry.{direct_transform}
use Rattle.schema.specs.declared.geometry.WideTranslation.{WideTranslation}
use Rattle.views.specs.Nodes.{world_at, id_at}
use Rattle.views.proofs.MoveSums.{nothing_summed, so_far_x, so_far_y, in_reach_x, in_reach_y, sum_to_top, sum_is_whole, sum_goes_on, IsSumSoFar}
use Rattle.views.proofs.node.node_ref.NodeRef.move_to_top.Goals as goal

pub loop-current-init : goal.loop-current-init
loop-current-init c = record { world = refl; sum = nothing_summed (world_at c.args.self) c.args.top (id_at c.args.self) }

pub added-sum-requires-clause-across : goal.added-sum-requires-clause-across
added-sum-requires-clause-across c =
    let n = c.loop-current.current in
    in_reach_x (world_at c.args.self) c.know_count.ensures c.args.top (id_at c.args.self) (id_at n) c.own_move.result (c.own_move.ensures.exact ∙ ap (λ v. direct_transform v (id_at n)) c.loop-current.invariant.world) c.own_move.ensures.across c.own_move.ensures.along c.loop-current.sum c.loop-current.invariant.sum

pub added-sum-requires-clause-along : goal.added-sum-requires-clause-along
added-sum-requires-clause-along c =
    let n = c.loop-current.current in
    in_reach_y (world_at c.args.self) c.know_count.ensures c.args.top (id_at c.args.self) (id_at n) c.own_move.result (c.own_move.ensures.exact ∙ ap (λ v. direct_transform v (id_at n)) c.loop-current.invariant.world) c.own_move.ensures.across c.own_move.ensures.along c.loop-current.sum c.loop-current.invariant.sum

pub returns-in_default-clause-exact : goal.returns-in_default-clause-exact
returns-in_default-clause-exact c =
    let n = c.loop-current.current in
    c.added-sum.ensures.sum
    ∙ sum_is_whole (world_at c.args.self) c.know_count.ensures c.args.top (id_at c.args.self) (id_at n) c.own_move.result (c.own_move.ensures.exact ∙ ap (λ v. direct_transform v (id_at n)) c.loop-current.invariant.world) c.own_move.ensures.across c.own_move.ensures.along c.loop-current.sum c.loop-current.invariant.sum
    c.know.ensures.formed (sym c.is_top.ensures ∙ c.loop-current-test.true) (world_at n) c.loop-current.invariant.world c.in_default.ensures.node

pub loop-current-preserved : goal.loop-current-preserved
loop-current-preserved c =
    let n = c.loop-current.current in
    record {
      world = c.in-Some.ensures.world ∙ c.loop-current.invariant.world;
      sum = subst (λ (t : WideTranslation). IsSumSoFar (world_at c.args.self) c.args.top (id_at c.args.self) (id_at c.in-Some.parent) t.x t.y) (sym c.added-sum.ensures.sum)
          (sum_goes_on (world_at c.args.self) c.know_count.ensures c.args.top (id_at c.args.self) (id_at n) c.own_move.result (c.own_move.ensures.exact ∙ ap (λ v. direct_transform v (id_at n)) c.loop-current.invariant.world) c.own_move.ensures.across c.own_move.ensures.along c.loop-current.sum c.loop-current.invariant.sum
          c.know.ensures.formed (sym c.is_top.ensures ∙ c.loop-current-test.true) (world_at n) c.loop-current.invariant.world (id_at c.in-Some.parent) c.in-Some.ensures.node);
    }

pub returns-clause-exact : goal.returns-clause-exact
returns-clause-exact c =
    sum_to_top (world_at c.args.self) c.know_count.ensures c.args.top (id_at c.args.self) (id_at c.loop-current.current) c.loop-current.sum c.loop-current.invariant.sum
    (sym c.is_top.ensures ∙ c.loop-current-test.false)

pub returns-clause-across : goal.returns-clause-across
returns-clause-across c = so_far_x (world_at c.args.self) c.know_count.ensures c.args.top (id_at c.args.self) (id_at c.loop-current.current) c.loop-current.sum c.loop-current.invariant.sum

pub returns-clause-along : goal.returns-clause-along
returns-clause-along c = so_far_y (world_at c.args.self) c.know_count.ensures c.args.top (id_at c.args.self) (id_at c.loop-current.current) c.loop-current.sum c.loop-current.invariant.sum
