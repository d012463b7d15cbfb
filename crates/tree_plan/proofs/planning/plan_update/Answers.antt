use Rattle.std.proofs.Common.{◌≡◌, ◌++◌, map, refl, ap, ◌∙◌, subst, sym}
use Rattle.schema.specs.UpdateData.{update_data}
use Rattle.tree_plan.specs.declared.plan.Plan.{Plan}
use Rattle.tree_plan.specs.declared.plan.Change.TheVariants.{Tree}
use Rattle.tree_plan.specs.Planned.{AreTakenOnce, plan_change}
use Rattle.tree_plan.proofs.Plans.{taken_once, plan_is, plan_within}
use Rattle.tree_plan.proofs.planning.plan_update.Given as given
use Rattle.tree_plan.proofs.planning.plan_update.Goals as goal
use Rattle.tree_plan.proofs.planning.plan_update.Goals.{In_ok-push_nodes, After-toolkit_texts}

pub push_nodes-requires : goal.push_nodes-requires
push_nodes-requires g c =
    subst AreTakenOnce (sym c.deref-2.ensures.value) (taken_once (g.L.LookUps.world c.args.look_ups.now) (update_data c.args.update) c.in_ok-decision.decision c.in_ok-decision.ensures.ok)

-- what the plan changes: the trees, and then the nodes with their data
changed : (g : given.Over) (c : In_ok-push_nodes g) → c.push_nodes.new.changes.items ≡ map Tree c.in_ok-decision.decision.trees.items ++ map (plan_change c.in_ok-slots.slots.items) c.in_ok-decision.decision.nodes.items
changed g c =
    let slots = c.in_ok-slots.slots.items in
    let trees = c.in_ok-push_trees.ensures.ok ∙ ap (λ xs. xs ++ map Tree c.deref.result.now) c.new-changes.ensures.items ∙ ap (map Tree) c.deref.ensures.value in
    c.in_ok-push_nodes.ensures.ok ∙ ap (λ xs. xs ++ map (plan_change slots) c.deref-2.result.now) trees ∙ ap (λ ns. map Tree c.in_ok-decision.decision.trees.items ++ map (plan_change slots) ns) c.deref-2.ensures.value

-- the plan that is made
abbrev made : (g : given.Over) → After-toolkit_texts g → Plan
made g c = record { changes = c.push_nodes.new.changes; events = c.in_ok-decision.decision.events; toolkit = c.toolkit_texts.result; focus = c.in_ok-decision.decision.focus }

pub returns-clause-ok : goal.returns-clause-ok
returns-clause-ok g c =
    let p = goal.at.returns-clause-ok g c in
    plan_is _ c.decide.ensures.old _ _ c.in_ok-decision.ensures.ok (made g p.After-toolkit_texts) _ c.in_ok-slots.ensures.ok (changed g p.In_ok-push_nodes) c.is_root_tree-is_root.result c.is_root_tree-is_root.ensures c.toolkit_texts.ensures refl refl

pub returns-clause-work : goal.returns-clause-work
returns-clause-work g c =
    let p = goal.at.returns-clause-work g c in
    plan_within _ c.decide.ensures.old _ _ c.in_ok-decision.ensures.ok (made g p.After-toolkit_texts) _ c.in_ok-slots.ensures.ok (changed g p.In_ok-push_nodes) c.is_root_tree-is_root.result c.is_root_tree-is_root.ensures c.toolkit_texts.ensures refl
    (g.L.LookUps.asked c.args.look_ups.now) (g.L.LookUps.asked c.decide.new.look_ups) c.in_ok-decision.ensures.work
