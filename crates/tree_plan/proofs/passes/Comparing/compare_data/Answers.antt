use Rattle.std.proofs.Common.{◌≡◌, ℕ, List, Some, map, length, sym, ap, subst, ◌∙◌}
use Rattle.std.specs.BTreeMap.{is_at}
use Rattle.std.specs.Map.{set_value}
use Rattle.std.proofs.lemmas.List.{length-map}
use Rattle.std.proofs.lemmas.Map.{length-set_value}
use Rattle.std.proofs.lemmas.Result.{on_ok_weaker}
use Rattle.schema.specs.declared.NodeId.{NodeId}
use Rattle.model.specs.declared.FullNodeId.{FullNodeId}
use Rattle.model.specs.FullIds.{full_cmp}
use Rattle.model.specs.World.{in_tree}
use Rattle.tree_plan.specs.declared.passes.Comparing.{Comparing}
use Rattle.tree_plan.specs.Passes.{at}
use Rattle.tree_plan.specs.Comparisons.{spots_of, Gathers, Leaves, OnlyIn}
use Rattle.tree_plan.proofs.IdMaps.{Put, put_changed}
use Rattle.tree_plan.proofs.NodeSteps.{data_compared}
use Rattle.tree_plan.proofs.passes.Comparing.compare_data.Goals as goal

pub returns-clause-ok : goal.returns-clause-ok
returns-clause-ok c =
    let id = c.args.id in
    let a : Comparing = c.args.self.now in
    let b : Comparing = c.compare_lists.new.self in
    let xs : List FullNodeId = map (in_tree id.tree) c.args.held.now.children.now in
    let is : c.change_near.new.self ≡ set_value (is_at (full_cmp id)) a.named c.args.named = c.change_near.ensures in
    let put : Put id (Some c.args.named) (at a.named) (at c.change_near.new.self) = subst (λ es. Put id (Some c.args.named) (at a.named) (at es)) (sym is) (put_changed a.named id c.args.named c.requires.there) in
    let same : c.children.result.now ≡ c.args.node.now.children = c.children.ensures in
    let count : length c.args.held.now.children.now ≡ length xs = sym (length-map c.args.held.now.children.now (in_tree id.tree)) in
    let left = subst (λ (n : ℕ). Leaves id xs (map (in_tree id.tree) c.args.node.now.children) 0 n a.left b.left a.entered b.entered) count
    (subst (λ (ys : List NodeId). Leaves id xs (map (in_tree id.tree) ys) 0 (length c.args.held.now.children.now) a.left b.left a.entered b.entered) same c.in_ok-compare_lists.ensures.left) in
    let entered = subst (λ (ys : List NodeId). Gathers (OnlyIn id (map (in_tree id.tree) ys) xs) (spots_of a.entered) (spots_of b.entered)) same c.in_ok-compare_lists.ensures.entered in
    on_ok_weaker c.compare_grafts.result (λ grafts.
    data_compared id c.args.named xs c.args.held.now.graft c.tree_id.result c.args.node.now a b c.compare_grafts.new.self c.change_near.new.self
    c.tree_id.ensures put (λ there. ap length is ∙ length-set_value (is_at (full_cmp id)) a.named c.args.named)
    left entered c.compare_lists.ensures.rest c.compare_grafts.ensures.rest grafts) c.compare_grafts.ensures.ok
