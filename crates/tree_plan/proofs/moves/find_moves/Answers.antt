use Rattle.std.proofs.Common.{rules, ◌≡◌, ◌∙◌, List, None, length, ap, subst}
use Rattle.std.specs.Prelude.{IfSome}
use Rattle.schema.specs.UpdateData.{UpdateData, update_data}
use Rattle.model.specs.declared.FullNodeId.{FullNodeId}
use Rattle.model.specs.World.{World, in_tree}
use Rattle.model.specs.Differences.{told_root}
use Rattle.tree_changes.specs.Changes.{NodeChanges}
use Rattle.tree_plan.specs.declared.passes.Opened.{Opened}
use Rattle.tree_plan.specs.News.{KeepsTree}
use Rattle.tree_plan.specs.Passes.{HoldsOpened}
use Rattle.tree_plan.specs.Moves.{AreMoves, HaveMoved, HaveWays}
use Rattle.tree_plan.proofs.MovedRows.{moves_decision}
use Rattle.tree_plan.proofs.moves.find_moves.Goals as goal

pub compare_nodes-requires-clause-index : goal.compare_nodes-requires-clause-index
compare_nodes-requires-clause-index g c =
    let opening : HoldsOpened (g.L.LookUps.world c.args.look_ups.now) (update_data c.args.update.now) c.requires.root.0 = c.requires.root.1 in
    ap (λ (x : FullNodeId). x.tree) c.requires.root.3 ∙ opening.index

pub returns-clause-ok : goal.returns-clause-ok
returns-clause-ok g c =
    let w : World = g.L.LookUps.world c.args.look_ups.now in
    let u : UpdateData = update_data c.args.update.now in
    let op : Opened = c.requires.root.0 in
    let opening : HoldsOpened w u op = c.requires.root.1 in
    let tree : KeepsTree u op = c.requires.root.2 in
    let moves : AreMoves w u (length u.nodes) c.in-Some.moving = subst (λ x. IfSome x (AreMoves w u (length u.nodes))) c.in-Some.is c.in_ok-moving.ensures.ok in
    let rows : NodeChanges = c.in-Ok.changes in
    let left : List (FullNodeId × FullNodeId) = c.in-Some.moving.left.items in
    let moved : HaveMoved rows left = subst (HaveMoved rows) c.deref.ensures.value (c.have_moved.ensures (search rules)) in
    let there : HaveWays w rows c.deref-2.result.now c.args.root = subst (λ (x : World). HaveWays x rows c.deref-2.result.now c.args.root) c.compare_nodes.ensures.world (c.have_ways.ensures.ways (search rules)) in
    let ways : HaveWays w rows left (in_tree op.index op.root) = subst (HaveWays w rows left) c.requires.root.3 (subst (λ xs. HaveWays w rows xs c.args.root) c.deref-2.ensures.value there) in
    λ d of. moves_decision w u c.requires.old op opening tree.same c.in_ok-refuse_twice.ensures.ok
    c.in-Some.moving moves c.in-Ok.changes c.in-Ok.ensures.ascends c.in-Ok.ensures.reads moved ways (subst (λ i. told_root i u.info ≡ None) opening.index tree.untold)
    d of.nodes of.trees of.events of.focus
