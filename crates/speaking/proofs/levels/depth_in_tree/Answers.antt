use Rattle.std.proofs.Common.{◌≡◌, ◌∷◌, ◌+◌, ◌-◌, ◌^◌, ◌<◌, ℕ, List, Bool, true, false, cond, min, refl, sym, ap, subst, arith, ◌∙◌}
use Rattle.std.specs.Prelude.{count_by}
use Rattle.std.proofs.lemmas.List.Sums.{sum_by-cons}
use Rattle.model.specs.declared.FullNodeId.{FullNodeId}
use Rattle.model.specs.Forest.{IsFormed}
use Rattle.model.specs.Lists.{ancestors}
use Rattle.model.specs.Upward.{says}
use Rattle.model.specs.World.{World}
use Rattle.views.specs.declared.node.node_ref.NodeRef.{NodeRef}
use Rattle.views.specs.Nodes.{world_at, id_at, data_at}
use Rattle.views.proofs.Climbing.{parent_of, parent_above, nothing_above, climb_is_shorter, says_shown}
use Rattle.speaking.specs.Levels.{is_tree_item, own_depth}
use Rattle.speaking.proofs.levels.depth_in_tree.Goals as goal

-- how many of these nodes are items of trees
abbrev items : World → List FullNodeId → ℕ
items w ids = count_by (says is_tree_item w) ids

one_more : (w : World) (id : FullNodeId) (ids : List FullNodeId) → items w (id ∷ ids) ≡ cond (says is_tree_item w id) 1 0 + items w ids
one_more w id ids = sum_by-cons (λ (q : FullNodeId). cond (says is_tree_item w q) 1 0) id ids

one_is_small : (b : Bool) → cond b 1 0 < 2 ^ 64
one_is_small true = omega arith
one_is_small false = omega arith

-- what a node adds is what it is counted as
counted : (w : World) (n : NodeRef) → world_at n ≡ w → own_depth (data_at n) ≡ cond (says is_tree_item w (id_at n)) 1 0
counted w n same = ap (λ (b : Bool). cond b 1 0) (sym (says_shown is_tree_item w n same))

pub loop-parent-init : goal.loop-parent-init
loop-parent-init c =
    let w = world_at c.args.node in
    let node = c.args.node in
    let first : c.own_depth-depth.result ≡ cond (says is_tree_item w (id_at node)) 1 0 = c.own_depth-depth.ensures ∙ counted w node refl in
    record {
      world = refl;
      in_range = subst (λ (n : ℕ). n < 2 ^ 64) (sym first) (one_is_small (says is_tree_item w (id_at node)));
      all =
          ap (λ (n : ℕ). min n (2 ^ 64 - 1))
          (ap (λ (n : ℕ). n + items w (ancestors w (id_at node))) first ∙ sym (one_more w (id_at node) (ancestors w (id_at node))));
    }

pub loop-parent-smaller : goal.loop-parent-smaller
loop-parent-smaller c =
    let w = world_at c.args.node in
    let n = c.loop-parent.current in
    climb_is_shorter w (subst IsFormed c.tree_state.ensures c.know.ensures.formed) (id_at n) (id_at c.in-Some.parent) (c.in-Some.ensures.node ∙ ap (λ v. parent_of v (id_at n)) c.loop-parent.invariant.world)

pub loop-parent-preserved : goal.loop-parent-preserved
loop-parent-preserved c =
    let w = world_at c.args.node in
    let n = c.loop-parent.current in
    let q = c.in-Some.parent in
    let inv = c.loop-parent.invariant in
    let here = c.in-Some.ensures.world ∙ inv.world in
    let up : ancestors w (id_at n) ≡ id_at q ∷ ancestors w (id_at q) =
    parent_above w (subst IsFormed c.tree_state.ensures c.know.ensures.formed) (id_at n) (id_at q) (c.in-Some.ensures.node ∙ ap (λ v. parent_of v (id_at n)) inv.world) in
    let more : c.own_depth-more.result ≡ cond (says is_tree_item w (id_at q)) 1 0 = c.own_depth-more.ensures ∙ counted w q here in
    let higher : items w (ancestors w (id_at n)) ≡ c.own_depth-more.result + items w (ancestors w (id_at q)) =
    ap (items w) up ∙ one_more w (id_at q) (ancestors w (id_at q)) ∙ ap (λ (k : ℕ). k + items w (ancestors w (id_at q))) (sym more) in
    record {
      world = here;
      in_range = omega (arith, c.saturating_add-depth.ensures);
      all = omega (arith, higher, inv.all, c.saturating_add-depth.ensures);
    }

pub returns : goal.returns
returns c =
    let w = world_at c.args.node in
    let n = c.loop-parent.current in
    let inv = c.loop-parent.invariant in
    let none : items w (ancestors w (id_at n)) ≡ 0 =
    ap (items w) (nothing_above w (subst IsFormed c.tree_state.ensures c.know.ensures.formed) (id_at n) (c.in_default.ensures.node ∙ ap (λ v. parent_of v (id_at n)) inv.world)) in
    omega (arith, none, inv.all, inv.in_range)
