use Rattle.std.proofs.Common.{inl, ◌≡◌, Some, None, Contains, map, sym, ap, subst, ◌∙◌}
use Rattle.std.specs.Prelude.{option_and_then}
use Rattle.std.proofs.lemmas.Result.{on_ok_weaker}
use Rattle.schema.specs.NodeData.{NodeData}
use Rattle.model.specs.World.{HasData, data_of, in_tree}
use Rattle.tree_plan.specs.Removing.{LosesAll}
use Rattle.tree_plan.specs.Cases.{sent}
use Rattle.tree_plan.proofs.IdMaps.{none_if_not}
use Rattle.tree_plan.proofs.RemovingSteps.{child_goes, expands_nothing, expands_lists, expands_graft, graft_fresh}
use Rattle.tree_plan.proofs.removing.expand.Goals as goal

pub returns-in_default-clause-ok : goal.returns-in_default-clause-ok
returns-in_default-clause-ok g c =
    let w = g.before in let u = sent c.args.case.now in
    let none : data_of w c.args.id ≡ None = subst (λ v. data_of v c.args.id ≡ None) c.requires.1.0 (none_if_not _ c.in_default.ensures.found) in
    expands_nothing w u c.args.id c.args.removing.now c.requires.1.1.0.found none

pub lose_children-requires : goal.lose_children-requires
lose_children-requires g c =
    let w = g.before in let u = sent c.args.case.now in
    let d : NodeData = c.in-Some.record.node.now in
    let has : HasData w c.args.id d = subst (λ v. HasData v c.args.id d) c.requires.1.0 c.in-Some.ensures.given.node in
    let goes = c.requires.1.1.0.found.goes c.args.id c.requires.1.1.1.0 in (
      record { case = c.requires.1.1.0.case; found = c.requires.1.1.0.found },
      λ x h. child_goes w u c.args.id d has goes.0 x (subst (λ ns. Contains (map (in_tree c.args.id.tree) ns) x) c.children.ensures h),
    )

pub returns-in-None-clause-ok : goal.returns-in-None-clause-ok
returns-in-None-clause-ok g c =
    let w = g.before in let u = sent c.args.case.now in
    let d : NodeData = c.in-Some.record.node.now in
    let has : HasData w c.args.id d = subst (λ v. HasData v c.args.id d) c.requires.1.0 c.in-Some.ensures.given.node in
    let l : LosesAll w u (map (in_tree c.args.id.tree) d.children) c.args.removing.now c.lose_children.new.removing = subst (λ ns. LosesAll w u (map (in_tree c.args.id.tree) ns) c.args.removing.now c.lose_children.new.removing) c.children.ensures c.in_ok-lose_children.ensures.ok in
    expands_lists w u c.args.id c.args.removing.now c.requires.1.1.0.found d has c.lose_children.new.removing (sym c.tree_id-name.ensures ∙ c.in-None.is) l

pub drop_tree-requires : goal.drop_tree-requires
drop_tree-requires g c =
    let w = g.before in let u = sent c.args.case.now in
    let d : NodeData = c.in-Some.record.node.now in
    let has : HasData w c.args.id d = subst (λ v. HasData v c.args.id d) c.requires.1.0 c.in-Some.ensures.given.node in
    let goes = c.requires.1.1.0.found.goes c.args.id c.requires.1.1.1.0 in
    let l : LosesAll w u (map (in_tree c.args.id.tree) d.children) c.args.removing.now c.lose_children.new.removing = subst (λ ns. LosesAll w u (map (in_tree c.args.id.tree) ns) c.args.removing.now c.lose_children.new.removing) c.children.ensures c.in_ok-lose_children.ensures.ok in
    let name : d.tree_id ≡ Some c.in-Some-name.name = sym c.tree_id-name.ensures ∙ c.in-Some-name.is in
    λ κs short. (
      short,
      (
        c.node.follows.holds-at-none.0 ∙ c.requires.1.0,
        (
          record { case = c.requires.1.1.0.case; found = l.found },
          (
            (c.args.id, ap (λ o. option_and_then (λ x. x.tree_id) o) has ∙ name, inl goes.0),
            graft_fresh w u c.args.id c.args.removing.now c.requires.1.1.0.found d has c.lose_children.new.removing c.in-Some-name.name name l c.requires.1.1.1.1,
          ),
        ),
      ),
    )

pub returns-in-Some-name-clause-ok : goal.returns-in-Some-name-clause-ok
returns-in-Some-name-clause-ok g c =
    let w = g.before in let u = sent c.args.case.now in
    let d : NodeData = c.in-Some.record.node.now in
    let has : HasData w c.args.id d = subst (λ v. HasData v c.args.id d) c.requires.1.0 c.in-Some.ensures.given.node in
    let l : LosesAll w u (map (in_tree c.args.id.tree) d.children) c.args.removing.now c.lose_children.new.removing = subst (λ ns. LosesAll w u (map (in_tree c.args.id.tree) ns) c.args.removing.now c.lose_children.new.removing) c.children.ensures c.in_ok-lose_children.ensures.ok in
    let name : d.tree_id ≡ Some c.in-Some-name.name = sym c.tree_id-name.ensures ∙ c.in-Some-name.is in
    on_ok_weaker c.drop_tree.result (expands_graft w u c.args.id c.args.removing.now c.requires.1.1.0.found d has c.lose_children.new.removing c.drop_tree.new.removing c.in-Some-name.name name l) c.drop_tree.ensures.ok
