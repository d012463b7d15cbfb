use Rattle.std.proofs.Common.{◌≡◌, ◌≤◌, ◌++◌, List, map, length}
use Rattle.model.specs.Events.{Event, Told}
use Rattle.model.specs.Run.{Runs}
use Rattle.std.specs.Vec.{vec_capacity}
use Rattle.session.specs.Replied.{command_said, reply_said}
use Rattle.session.proofs.session.Session.run.Given as goal

-- the commands so far have run, and there is room for the replies to all
abbrev pub invariant-loop-command : goal.invariant-loop-command
invariant-loop-command g l = record {
  room : length l.fn.commands.items ≤ vec_capacity l.replies;
  told : List Event;
  runs : Runs l.fn.self (map command_said l.yielded) l.self told (map reply_said l.replies.items);
  heard : Told g.H.TreeChangeHandler.steps l.fn.handler told l.handler;
  all : l.fn.commands.items ≡ l.yielded ++ l.command-iterator.rest.items;
}
