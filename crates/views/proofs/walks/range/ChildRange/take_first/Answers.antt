use Rattle.std.proofs.Common.{arith, sym, ◌∙◌}
use Rattle.model.specs.World.{children}
use Rattle.model.proofs.State.StatePlaces.{child_is_node}
use Rattle.views.specs.ShownWorlds.{world_of}
use Rattle.model.proofs.Lists.Ranges.{range_first}
use Rattle.views.proofs.walks.range.ChildRange.take_first.Goals as goal

pub returns-clause-steps : goal.returns-clause-steps
returns-clause-steps c =
    range_first (children (world_of c.args.self.now.state) c.args.self.now.parent.id) c.args.self.now.front c.args.self.now.back c.unwrap-child.result (omega (arith, c.args.self.now.ordered, c.if-self.false)) (sym c.child_id.ensures.is ∙ c.unwrap-child.ensures)

pub returns-clause-node : goal.returns-clause-node
returns-clause-node c = child_is_node c.know.ensures.state (c.args.self.now.parent.id, c.args.self.now.front) c.unwrap-child.result (sym c.child_id.ensures.is ∙ c.unwrap-child.ensures)
