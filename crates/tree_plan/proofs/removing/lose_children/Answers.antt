use Rattle.std.proofs.Common.{◌≡◌, ◌+◌, ◌++◌, ◌∷◌, [], map, take, get_or, sym, subst}
use Rattle.std.proofs.lemmas.List.{map_more}
use Rattle.schema.specs.declared.NodeId.{NodeId}
use Rattle.model.specs.declared.FullNodeId.{FullNodeId}
use Rattle.model.specs.World.{in_tree}
use Rattle.tree_plan.specs.Removing.{LosesAll}
use Rattle.tree_plan.specs.Cases.{sent}
use Rattle.tree_plan.proofs.RemovingSteps.{loses_more, contains_map_at}
use Rattle.tree_plan.proofs.removing.lose_children.Goals as goal

pub lose-requires : goal.lose-requires
lose-requires g c =
    let id : FullNodeId = in_tree c.args.parent.tree (get_or c.args.children.now c.loop-child.child-index (record { 0 = 0 })) in
    (record { case = c.requires.0.case; found = c.loop-child.invariant.found }, c.requires.1 id (contains_map_at (in_tree c.args.parent.tree) c.args.children.now c.loop-child.child-index (record { 0 = 0 }) c.loop-child-test.true))

pub loop-child-preserved : goal.loop-child-preserved
loop-child-preserved g c =
    let w = g.before in let u = sent c.args.case.now in
    let f : NodeId → FullNodeId = in_tree c.args.parent.tree in
    let i = c.loop-child.child-index in
    let d : NodeId = record { 0 = 0 } in
    let xs = c.args.children.now in
    let more : map f (take (i + 1) xs) ≡ map f (take i xs) ++ f (get_or xs i d) ∷ [] = map_more f xs i d c.loop-child-test.true in
    subst (λ ids. LosesAll w u ids c.args.removing.now c.lose.new.removing) (sym more)
    (loses_more w u (map f (take i xs)) (f (get_or xs i d)) c.args.removing.now c.loop-child.removing c.lose.new.removing c.loop-child.invariant c.in_ok-lose.ensures.ok)
