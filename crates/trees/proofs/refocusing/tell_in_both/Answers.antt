use Rattle.views.specs.ShownWorlds.{world_of}
use Rattle.trees.proofs.Refocused.{told_in_both}
use Rattle.trees.proofs.refocusing.tell_in_both.Goals as goal

pub returns-then-has_node : goal.returns-then-has_node
returns-then-has_node g c =
    told_in_both g.H.TreeChangeHandler.steps (world_of c.args.old) (world_of c.args.new) c.args.id c.in-Some.id c.args.handler.now c.tell.new.handler c.in-Some.is
    (c.has_node.ensures.0 c.if-not-has_node.false) (c.has_node-2.ensures.0 c.if-has_node.true) c.tell.ensures
