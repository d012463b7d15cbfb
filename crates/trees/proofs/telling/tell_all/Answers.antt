use Rattle.std.proofs.Common.{refl}
use Rattle.views.specs.ShownWorlds.{world_of}
use Rattle.model.proofs.Differences.Tellings.{told_next}
use Rattle.model.specs.Differences.{event}
use Rattle.model.specs.declared.events.PlanEvent.{PlanEvent}
use Rattle.model.specs.declared.events.PlanEvent.TheVariants as plan
use Rattle.trees.proofs.telling.tell_all.Goals as goal

pub loop-event-preserved : goal.loop-event-preserved
loop-event-preserved g c =
    let d : PlanEvent = plan.Added (record { tree = 0; node = record { 0 = 0 } }) in
    told_next g.H.TreeChangeHandler.steps (λ e. event (world_of c.args.old) (world_of c.args.new) e) c.args.differences.now c.loop-event.event-index d
    c.args.handler.now c.loop-event.handler c.tell.new.handler _ c.loop-event-test.true c.loop-event.invariant c.tell.ensures refl
