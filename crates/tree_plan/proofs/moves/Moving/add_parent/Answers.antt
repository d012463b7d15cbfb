use Rattle.std.proofs.Common.{rules, ◌≡◌, ◌≢◌, List, None, map, inr, refl, ap, subst}
use Rattle.std.proofs.lemmas.Result.{IfOk-weaker}
use Rattle.schema.specs.NodeData.{NodeData}
use Rattle.schema.specs.declared.NodeId.{NodeId}
use Rattle.model.specs.World.{in_tree}
use Rattle.tree_plan.specs.declared.moves.Moving.{Moving}
use Rattle.tree_plan.specs.Comparisons.{OnlyIn}
use Rattle.tree_plan.specs.Moves.{KeepsLinks, Compares}
use Rattle.tree_plan.proofs.MoveSteps.{adds_other}
use Rattle.tree_plan.proofs.moves.Moving.add_parent.Goals as goal

pub returns-clause-ok : goal.returns-clause-ok
returns-clause-ok c =
    let id = c.args.id in
    let old : NodeData = c.args.old.now in
    let d : NodeData = c.args.node.now in
    let a : Moving = c.args.self.now in
    let b : Moving = record a { changes = c.push.new.self } in
    let other : old ≢ d = λ same. c.requires (ap (λ (x : NodeData). x.children) same) in
    let links : KeepsLinks old d = c.keeps_links.ensures.0 (search rules) in
    let plain : d.tree_id ≡ None = search rules in
    let before : c.children.result.now ≡ old.children = c.children.ensures in
    let after : c.children-2.result.now ≡ d.children = c.children-2.ensures in
    let P : List NodeId → List NodeId → Moving → Type 0 = λ xs ys e. Compares (OnlyIn id (map (in_tree id.tree) xs) (map (in_tree id.tree) ys)) (OnlyIn id (map (in_tree id.tree) ys) (map (in_tree id.tree) xs)) id b e in
    IfOk-weaker c.compare_lists.result _ _ (λ taken compares yes w was place.
    adds_other w id c.args.entry old d a b c.compare_lists.new.self was links (inr plain) other c.args.place place refl c.in_ok-push.ensures.ok
    (subst (λ ys. P old.children ys c.compare_lists.new.self) after (subst (λ xs. P xs c.children-2.result.now c.compare_lists.new.self) before (compares yes)))) c.compare_lists.ensures.ok
