use Rattle.std.proofs.Common.{◌≡◌, None, [], map, sym, ap, subst, ◌∙◌}
use Rattle.std.proofs.lemmas.Result.{on_ok_weaker, IfErr-weaker}
use Rattle.schema.specs.NodeData.{NodeData}
use Rattle.model.specs.World.{World, data_of, in_tree, listed_ids, graft_name}
use Rattle.tree_plan.specs.Passes.{at_name}
use Rattle.tree_plan.specs.Comparisons.{IsGraftFault}
use Rattle.tree_plan.proofs.IdMaps.{none_if_not}
use Rattle.tree_plan.proofs.NodeSteps.{node_compared, new_entry, old_entry, old_lists, old_graft, new_lists, new_graft}
use Rattle.tree_plan.proofs.passes.Comparing.compare_node.Goals as goal

pub returns-in_default-clause-ok : goal.returns-in_default-clause-ok
returns-in_default-clause-ok g c =
    let w : World = g.L.LookUps.world c.args.look_ups.now in
    let id = c.args.id in
    let d : NodeData = c.args.node.now in
    let none : data_of w id ≡ None = none_if_not (data_of w id) c.in_default.ensures.found in
    on_ok_weaker c.compare_data.result (λ h.
    node_compared w id c.args.entry d c.args.self.now c.take_graft.new.self c.compare_data.new.self _ [] None
    c.in_ok-take_graft.ensures.ok c.take_graft.ensures.rest c.compare_data.ensures.rest (new_entry w id c.args.entry d none) (new_lists w id none) (new_graft w id none) h) c.compare_data.ensures.ok

pub returns-clause-ok : goal.returns-clause-ok
returns-clause-ok g c =
    let w : World = g.L.LookUps.world c.args.look_ups.now in
    let id = c.args.id in
    let d : NodeData = c.args.node.now in
    let r = c.in-Some.ensures.given in
    let before : NodeData = c.in-Some.old.node.now in
    let lists : map (in_tree id.tree) c.children.result.now ≡ listed_ids w id = ap (map (in_tree id.tree)) c.children.ensures ∙ old_lists w id before r.node in
    let graft : c.tree_id.result ≡ graft_name w id = c.tree_id.ensures ∙ old_graft w id before r.node in
    on_ok_weaker c.compare_data-2.result (λ h.
    node_compared w id c.args.entry d c.args.self.now c.take_graft.new.self c.compare_data-2.new.self _ (map (in_tree id.tree) c.children.result.now) c.tree_id.result
    c.in_ok-take_graft.ensures.ok c.take_graft.ensures.rest c.compare_data-2.ensures.rest (old_entry w id c.args.entry d before c.in-Some.old.place c.is_news.result r.node r.place c.is_news.ensures) lists graft h) c.compare_data-2.ensures.ok

pub returns-clause-err : goal.returns-clause-err
returns-clause-err g c = IfErr-weaker c.compare_data-2.result _ _ (λ e same. subst (IsGraftFault c.args.id c.args.node.now (at_name c.args.self.now.grafted)) (sym same) tt) c.compare_data-2.ensures.err
