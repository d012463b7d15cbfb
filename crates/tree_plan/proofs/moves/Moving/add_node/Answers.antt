use Rattle.std.proofs.Common.{rules, ◌≡◌, ◌≢◌, inl, refl, sym, ◌∙◌}
use Rattle.std.proofs.lemmas.Result.{IfOk-weaker}
use Rattle.schema.specs.NodeData.{NodeData}
use Rattle.model.specs.World.{World}
use Rattle.tree_plan.specs.declared.moves.Moving.{Moving}
use Rattle.tree_plan.specs.Moves.{KeepsLinks}
use Rattle.tree_plan.proofs.MoveSteps.{compares_children, adds_same, adds_other}
use Rattle.tree_plan.proofs.moves.Moving.add_node.Goals as goal

pub add_parent-requires : goal.add_parent-requires
add_parent-requires g c = λ same. let yes = c.are_same_ids.ensures.1 (c.children.ensures ∙ same ∙ sym c.children-2.ensures) in let no = c.if-not-are_same_ids.true in cc

pub returns-then-not-are_same_ids-clause-ok : goal.returns-then-not-are_same_ids-clause-ok
returns-then-not-are_same_ids-clause-ok g c =
    IfOk-weaker c.add_parent.result _ _ (λ taken adds yes. adds yes (g.L.LookUps.world c.args.look_ups.now) c.in-Some.ensures.given.node c.in-Some.ensures.given.place) c.add_parent.ensures.ok

pub returns-then-eq-clause-ok : goal.returns-then-eq-clause-ok
returns-then-eq-clause-ok g c =
    let w : World = g.L.LookUps.world c.args.look_ups.now in
    let old : NodeData = c.in-Some.old.node.now in
    let same : old ≡ c.args.node.now = search rules in
    λ _. adds_same w c.args.id c.args.entry old c.args.node.now c.args.self.now c.args.self.now c.in-Some.ensures.given.node same refl

pub returns-clause-ok : goal.returns-clause-ok
returns-clause-ok g c =
    let w : World = g.L.LookUps.world c.args.look_ups.now in
    let old : NodeData = c.in-Some.old.node.now in
    let d : NodeData = c.args.node.now in
    let a : Moving = c.args.self.now in
    let b : Moving = record a { changes = c.push.new.self } in
    let other : old ≢ d = search rules in
    let links : KeepsLinks old d = c.keeps_links.ensures.0 (search rules) in
    let same : old.children ≡ d.children = sym c.children.ensures ∙ c.are_same_ids.ensures.0 (search rules) ∙ c.children-2.ensures in
    λ _. adds_other w c.args.id c.args.entry old d a b b c.in-Some.ensures.given.node links (inl same) other c.in-Some.old.place c.in-Some.ensures.given.place refl c.in_ok-push.ensures.ok
    (compares_children c.args.id old d b same)
