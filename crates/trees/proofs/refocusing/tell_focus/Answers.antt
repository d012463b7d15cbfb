use Rattle.views.specs.ShownWorlds.{world_of}
use Rattle.trees.proofs.Refocused.{told_of_focus}
use Rattle.views.proofs.Focusing.{is_not}
use Rattle.trees.proofs.refocusing.tell_focus.Goals as goal

pub returns : goal.returns
returns g c =
    told_of_focus g.H.TreeChangeHandler.steps (world_of c.args.old) (world_of c.args.new) c.shown_focus-before.result c.shown_focus-after.result
    c.args.handler.now c.tell_in_both.new.handler c.tell_in_both-2.new.handler c.tell.new.handler c.shown_focus-before.ensures c.shown_focus-after.ensures
    (is_not c.is_same_focus.result _ c.is_same_focus.ensures c.if-is_same_focus.false) c.tell_in_both.ensures c.tell_in_both-2.ensures c.tell.ensures
