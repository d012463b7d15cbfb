-- The events of a step.
use Rattle.std.proofs.Common.{◌≡◌, List, [], map, Result, Ok, Err}
use Rattle.std.specs.declared.alloc.AllocError.{AllocError}
use Rattle.model.specs.Differences.{event}
use Rattle.model.specs.declared.events.PlanEvent.{PlanEvent}
use Rattle.model.specs.Events.{Event}
use Rattle.model.specs.Run.{CommandData, ToUpdate, ToHostFocus, ToQuery, ReplyData, Accepted, Refused, OutOfMemory, Answered, Does}
use Rattle.model.specs.World.{World}
use Rattle.session.specs.declared.commands.Command.{Command}
use Rattle.session.specs.declared.commands.Reply.{Reply}
use Rattle.session.specs.Replied.{command_said, reply_said, IsStep}

-- these events are differences of the two states
abbrev pub AreEvents : World → World → List Event → Type 0
AreEvents old new told = (differences : List PlanEvent) × (told ≡ map (event old new) differences)

does_differences : (old : World) (c : CommandData) (new : World) (told : List Event) (reply : ReplyData)
    → Does old c new told reply → AreEvents old new told
does_differences old (ToUpdate u) new told Accepted h = (h.1, h.3)
does_differences old (ToUpdate u) new told (Refused fault) h = ([], h.2)
does_differences old (ToUpdate u) new told OutOfMemory h = ([], h.1)
does_differences old (ToUpdate u) new told (Answered answer) h = absurd h
does_differences old (ToHostFocus focused) new told Accepted h = (h.1, h.3)
does_differences old (ToHostFocus focused) new told (Refused fault) h = absurd h
does_differences old (ToHostFocus focused) new told OutOfMemory h = absurd h
does_differences old (ToHostFocus focused) new told (Answered answer) h = absurd h
does_differences old (ToQuery query) new told reply h = ([], h.1)

-- the events of a step are its differences
pub step_differences : (old : World) (c : Command) (new : World) (told : List Event) (reply : Result Reply AllocError)
    → IsStep old c new told reply → AreEvents old new told
step_differences old c new told (Ok reply) h = does_differences old (command_said c) new told (reply_said reply) h
step_differences old c new told (Err wanting) h = ([], h.1)
