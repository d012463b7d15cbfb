use Rattle.std.proofs.Common.{take}
use Rattle.model.specs.Events.{Told}
use Rattle.model.specs.Differences.{events}
use Rattle.views.specs.ShownWorlds.{world_of}
use Rattle.trees.proofs.telling.tell_all.Given as goal

abbrev pub invariant-loop-event : goal.invariant-loop-event
invariant-loop-event g l =
    Told g.H.TreeChangeHandler.steps l.fn.handler (events (world_of l.fn.old) (world_of l.fn.new) (take l.event-index l.differences)) l.handler
