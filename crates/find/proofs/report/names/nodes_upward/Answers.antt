use Rattle.std.proofs.Common.{rules, ◌≡◌, [], ◌∷◌, ◌++◌, map, refl, ap, subst, ◌∙◌}
use Rattle.model.specs.Forest.{IsFormed}
use Rattle.model.specs.Lists.{ancestors}
use Rattle.model.specs.Upward.{upward}
use Rattle.views.specs.Nodes.{world_at, id_at}
use Rattle.views.specs.PlainWalks.{node_in, node_of}
use Rattle.views.proofs.Climbing.{parent_of, climb_is_shorter}
use Rattle.find.proofs.Upward.{climbs, climbed_all}
use Rattle.find.proofs.report.names.nodes_upward.Goals as goal

pub loop-parent-init : goal.loop-parent-init
loop-parent-init c =
    let w = world_at c.args.node in
    let one : c.push.new.self.items ≡ c.args.node ∷ [] = search rules in
    record { world = refl; all = ap (λ ns. map node_of ns ++ map (node_in w) (ancestors w (id_at c.args.node))) one }

pub loop-parent-smaller : goal.loop-parent-smaller
loop-parent-smaller c =
    let w = world_at c.args.node in
    let n = c.loop-parent.current in
    climb_is_shorter w (subst IsFormed c.tree_state.ensures c.know.ensures.formed) (id_at n) (id_at c.in-Some.parent) (c.in-Some.ensures.node ∙ ap (λ v. parent_of v (id_at n)) c.loop-parent.invariant.world)

pub loop-parent-preserved : goal.loop-parent-preserved
loop-parent-preserved c =
    let w = world_at c.args.node in
    let n = c.loop-parent.current in
    let q = c.in-Some.parent in
    let formed = subst IsFormed c.tree_state.ensures c.know.ensures.formed in
    let same = c.in-Some.ensures.world ∙ c.loop-parent.invariant.world in
    let parent = c.in-Some.ensures.node ∙ ap (λ v. parent_of v (id_at n)) c.loop-parent.invariant.world in
    record {
      world = same;
      all =
          ap (λ ns. map node_of ns ++ map (node_in w) (ancestors w (id_at q))) c.in_ok-push-2.ensures.items
          ∙ climbs w formed c.loop-parent.nodes.items n q (map (node_in w) (upward w (id_at c.args.node))) same parent c.loop-parent.invariant.all;
    }

pub returns : goal.returns
returns c =
    let w = world_at c.args.node in
    let n = c.loop-parent.current in
    climbed_all w (subst IsFormed c.tree_state.ensures c.know.ensures.formed) c.loop-parent.nodes.items n (map (node_in w) (upward w (id_at c.args.node)))
    (c.in_default.ensures.node ∙ ap (λ v. parent_of v (id_at n)) c.loop-parent.invariant.world) c.loop-parent.invariant.all
