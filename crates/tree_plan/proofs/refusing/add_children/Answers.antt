use Rattle.std.proofs.Common.{◌≡◌, ◌+◌, ◌++◌, ◌∷◌, [], map, take, get_or, sym, subst}
use Rattle.std.proofs.lemmas.List.{map_more}
use Rattle.schema.specs.declared.NodeId.{NodeId}
use Rattle.model.specs.declared.FullNodeId.{FullNodeId}
use Rattle.model.specs.World.{in_tree}
use Rattle.tree_plan.specs.Refusing.{Enqueues}
use Rattle.tree_plan.proofs.RefusingSteps.{adds_none, adds_more}
use Rattle.tree_plan.proofs.refusing.add_children.Goals as goal

pub loop-child-init : goal.loop-child-init
loop-child-init c = adds_none c.args.search.now c.requires.search

pub loop-child-preserved : goal.loop-child-preserved
loop-child-preserved c =
    let f : NodeId → FullNodeId = in_tree c.args.parent.tree in
    let i = c.loop-child.child-index in
    let d : NodeId = record { 0 = 0 } in
    let xs = c.args.children.now in
    let more : map f (take (i + 1) xs) ≡ map f (take i xs) ++ f (get_or xs i d) ∷ [] = map_more f xs i d c.loop-child-test.true in
    subst (λ ids. Enqueues ids c.args.search.now c.add.new.search) (sym more)
    (adds_more (map f (take i xs)) (f (get_or xs i d)) c.args.search.now c.loop-child.search c.add.new.search c.loop-child.invariant c.in_ok-add.ensures.ok)
