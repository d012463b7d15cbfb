use Rattle.std.proofs.Common.{◌≡◌, ◌-◌, ◌^◌, suc, length, min, refl, zero-add, arith, ap, subst, ◌∙◌}
use Rattle.model.specs.Forest.{IsFormed}
use Rattle.model.specs.Lists.{ancestors}
use Rattle.views.specs.Nodes.{world_at, id_at}
use Rattle.views.proofs.Climbing.{parent_of, climb_is_shorter}
use Rattle.page_states.proofs.Carrying.{depth_of_root, one_higher}
use Rattle.page_states.proofs.carried.counted_depth.Goals as goal

pub loop-parent-init : goal.loop-parent-init
loop-parent-init c = record { world = refl; in_range = omega arith; all = ap (λ n. min n (2 ^ 64 - 1)) (zero-add (length (ancestors (world_at c.args.node) (id_at c.args.node)))) }

pub loop-parent-smaller : goal.loop-parent-smaller
loop-parent-smaller c =
    let w = world_at c.args.node in
    let n = c.loop-parent.current in
    climb_is_shorter w (subst IsFormed c.tree_state.ensures c.know.ensures.formed) (id_at n) (id_at c.in-Some.parent) (c.in-Some.ensures.node ∙ ap (λ v. parent_of v (id_at n)) c.loop-parent.invariant.world)

pub loop-parent-preserved : goal.loop-parent-preserved
loop-parent-preserved c =
    let w = world_at c.args.node in
    let n = c.loop-parent.current in
    let q = c.in-Some.parent in
    let inv = c.loop-parent.invariant in
    let higher : length (ancestors w (id_at n)) ≡ suc (length (ancestors w (id_at q))) =
    one_higher w (subst IsFormed c.tree_state.ensures c.know.ensures.formed) (id_at n) (id_at q) (c.in-Some.ensures.node ∙ ap (λ v. parent_of v (id_at n)) inv.world) in
    record {
      world = c.in-Some.ensures.world ∙ inv.world;
      in_range = omega (arith, c.saturating_add-depth.ensures);
      all = omega (arith, higher, inv.all, c.saturating_add-depth.ensures);
    }

pub returns : goal.returns
returns c =
    let w = world_at c.args.node in
    let n = c.loop-parent.current in
    let inv = c.loop-parent.invariant in
    let none : length (ancestors w (id_at n)) ≡ 0 =
    depth_of_root w (subst IsFormed c.tree_state.ensures c.know.ensures.formed) (id_at n) (c.in_default.ensures.node ∙ ap (λ v. parent_of v (id_at n)) inv.world) in
    omega (arith, none, inv.all, inv.in_range)
