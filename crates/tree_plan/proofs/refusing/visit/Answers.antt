use Rattle.std.proofs.Common.{◌≡◌, ◌<◌, Some, None, length, map, slice_get, refl, sym, ap, subst, ◌∙◌, arith}
use Rattle.std.specs.Option.{option_copied}
use Rattle.std.proofs.lemmas.Option.{slice_get_read}
use Rattle.std.proofs.lemmas.Result.{on_ok_weaker}
use Rattle.schema.specs.NodeData.{NodeData}
use Rattle.schema.specs.declared.NodeId.{NodeId}
use Rattle.model.specs.World.{in_tree, listed_ids, data_of}
use Rattle.model.specs.Update.{merged_world}
use Rattle.tree_plan.specs.Passes.{at}
use Rattle.tree_plan.specs.Refusing.{Enqueues}
use Rattle.tree_plan.specs.Cases.{sent}
use Rattle.tree_plan.proofs.IdMaps.{none_if_not}
use Rattle.tree_plan.proofs.RefusingSteps.{named_fits, named_lists, old_lists, nothing_listed, adds_none}
use Rattle.tree_plan.proofs.refusing.visit.Goals as goal

pub index-requires : goal.index-requires
index-requires g c =
    let is : at c.args.case.now.compared.now.named c.args.id ≡ Some c.in-Some.named.now = sym c.get.ensures.value ∙ ap option_copied c.in-Some.is in
    let fits = named_fits (g.L.LookUps.world c.args.look_ups.now) (sent c.args.case.now) c.args.case.now.compared.now c.requires.case.comparison c.args.id c.in-Some.named.now is in
    omega (arith, fits, c.args.case.now.update.now.nodes.ok.0)

pub returns-in-Some-clause-ok : goal.returns-in-Some-clause-ok
returns-in-Some-clause-ok g c =
    let w = g.L.LookUps.world c.args.look_ups.now in let u = sent c.args.case.now in
    let is : at c.args.case.now.compared.now.named c.args.id ≡ Some c.in-Some.named.now = sym c.get.ensures.value ∙ ap option_copied c.in-Some.is in
    let n = c.in-Some.named.now in
    let fits : n.entry < length u.nodes = named_fits w u c.args.case.now.compared.now c.requires.case.comparison c.args.id n is in
    let e : NodeId × NodeData = c.index.result.now in
    let read : slice_get u.nodes n.entry ≡ Some e = slice_get_read u.nodes (length u.nodes) n.entry e refl fits c.index.ensures in
    let lists : listed_ids (merged_world w u) c.args.id ≡ map (in_tree c.args.id.tree) c.children.result.now = named_lists w u c.args.case.now.compared.now c.requires.case.comparison c.args.id n e is read ∙ ap (map (in_tree c.args.id.tree)) (sym c.children.ensures) in
    on_ok_weaker c.add_children.result (subst (λ ids. Enqueues ids c.args.search.now c.add_children.new.search) (sym lists)) c.add_children.ensures.ok

pub returns-in_default-node-clause-ok : goal.returns-in_default-node-clause-ok
returns-in_default-node-clause-ok g c =
    let w = g.L.LookUps.world c.args.look_ups.now in let u = sent c.args.case.now in
    let none : at c.args.case.now.compared.now.named c.args.id ≡ None = sym c.get.ensures.value ∙ ap option_copied c.in_default.is in
    let absent : data_of w c.args.id ≡ None = none_if_not (data_of w c.args.id) c.in_default-node.ensures.found in
    subst (λ ids. Enqueues ids c.args.search.now c.args.search.now) (sym (nothing_listed w u c.args.case.now.compared.now c.requires.case.comparison c.args.id none absent)) (adds_none c.args.search.now c.requires.search)

pub returns-clause-ok : goal.returns-clause-ok
returns-clause-ok g c =
    let w = g.L.LookUps.world c.args.look_ups.now in let u = sent c.args.case.now in
    let d : NodeData = c.in-Some-node.record.node.now in
    let none : at c.args.case.now.compared.now.named c.args.id ≡ None = sym c.get.ensures.value ∙ ap option_copied c.in_default.is in
    let lists : listed_ids (merged_world w u) c.args.id ≡ map (in_tree c.args.id.tree) c.children-2.result.now = old_lists w u c.args.case.now.compared.now c.requires.case.comparison c.args.id d none c.in-Some-node.ensures.given.node ∙ ap (map (in_tree c.args.id.tree)) (sym c.children-2.ensures) in
    on_ok_weaker c.add_children-2.result (subst (λ ids. Enqueues ids c.args.search.now c.add_children-2.new.search) (sym lists)) c.add_children-2.ensures.ok
