use Rattle.std.proofs.Common.{rules, ◌≡◌, ℕ, length, refl, ap, subst, ◌∙◌, arith}
use Rattle.schema.specs.UpdateData.{update_data}
use Rattle.model.specs.World.{in_tree}
use Rattle.tree_plan.specs.Moves.{AreMoves}
use Rattle.tree_plan.proofs.IdMaps.{read_at}
use Rattle.tree_plan.proofs.Taking.{IsTurn}
use Rattle.tree_plan.proofs.MoveSteps.{moves_none, turn_moves}
use Rattle.tree_plan.proofs.moves.compare_nodes.Given as given
use Rattle.tree_plan.proofs.moves.compare_nodes.Goals as goal
use Rattle.tree_plan.proofs.moves.compare_nodes.Goals.{After-full_id-id}

-- the entry of a turn, and the node that it names
turn : (g : given.Over) (c : After-full_id-id g) → IsTurn (g.L.LookUps.world c.args.look_ups.now) (update_data c.args.update.now) c.loop-entry.entry c.item-item.result c.full_id-id.result
turn g c = record {
  at = read_at c.deref-item-items.result.now _ c.deref-item-items.ensures.value c.loop-entry.entry _ c.loop-entry-test.true c.item-item.is;
  names = c.full_id-id.ensures ∙ ap (λ i. in_tree i c.item-item.result.0) c.requires.index;
}

pub loop-entry-init : goal.loop-entry-init
loop-entry-init g c = record {
  world = refl;
  count = (omega arith, omega arith);
  moves = moves_none _ _ c.requires.old _ c.take_changes.ensures c.take_left.ensures;
}

pub loop-entry-preserved : goal.loop-entry-preserved
loop-entry-preserved g c =
    let i = c.loop-entry.invariant in
    let counted = c.add_node.ensures.count in
    record {
      world = c.add_node.ensures.world ∙ i.world;
      count = (omega (arith, i.count.0, counted.0), omega (arith, i.count.1, counted.1));
      moves = turn_moves c.requires.old c.requires.once (turn g (goal.at.loop-entry-preserved g c).After-full_id-id) _ i.world c.loop-entry.moving c.add_node.new.self i.moves (c.in_ok-add_node.ensures.ok (search rules));
    }

pub returns-clause-ok : goal.returns-clause-ok
returns-clause-ok g c =
    let same : length c.deref-item-items.result.now ≡ length c.args.update.now.nodes.items = ap length c.deref-item-items.ensures.value in
    let all : c.loop-entry.entry ≡ length c.args.update.now.nodes.items = omega (arith, same, c.loop-entry-test.false, c.loop-entry.auto.entry-end) in
    subst (λ (n : ℕ). AreMoves (g.L.LookUps.world c.args.look_ups.now) (update_data c.args.update.now) n c.loop-entry.moving) all c.loop-entry.invariant.moves
