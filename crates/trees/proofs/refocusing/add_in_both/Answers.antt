use Rattle.views.specs.ShownWorlds.{world_of}
use Rattle.trees.proofs.Focusing.{added_in_both}
use Rattle.trees.proofs.refocusing.add_in_both.Goals as goal

pub returns-then-has_node : goal.returns-then-has_node
returns-then-has_node c =
    added_in_both (world_of c.args.old) (world_of c.args.new) c.args.id c.in-Some.id c.args.events.now.items c.push.new.self.items c.in-Some.is
    (c.has_node.ensures.0 c.if-not-has_node.false) (c.has_node-2.ensures.0 c.if-has_node.true) c.in_ok-push.ensures.items
