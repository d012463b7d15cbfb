-- Commands and replies as those of the model, and what a run is.
use Rattle.std.specs.Prelude.{◌≡◌, IsTrue, List, [], ◌∷◌, map, Option, Some, None, option_map, option_and_then, Result, Ok, Err, ⊤}
use Rattle.std.specs.Option.{option_map_or}
use Rattle.std.specs.Global.{Vec}
use Rattle.std.specs.declared.alloc.AllocError.{AllocError}
use Rattle.std.specs.String.{string_bytes}
use Rattle.schema.specs.declared.NodeId.{NodeId}
use Rattle.schema.specs.declared.TreeId.{TreeId}
use Rattle.schema.specs.UpdateData.{update_data}
use Rattle.model.specs.World.{World}
use Rattle.model.specs.Events.{Event}
use Rattle.model.specs.declared.FullNodeId.{FullNodeId}
use Rattle.model.specs.declared.queries.Query.{Query}
use Rattle.model.specs.declared.queries.Query.TheVariants as query
use Rattle.model.specs.Answers as answer
use Rattle.model.specs.Queries.{node_named, answer_of, takes_memory}
use Rattle.model.specs.Run.{CommandData, ToUpdate, ToHostFocus, ToQuery, ReplyData, Accepted, Refused, OutOfMemory, Answered, Does, Runs, RunsUpTo}
use Rattle.model.specs.AlikeRuns.{RunsAlike}
use Rattle.tree_changes.specs.Refusals.{fault_of}
use Rattle.session.specs.declared.commands.Command.{Command}
use Rattle.session.specs.declared.commands.Command.TheVariants as command
use Rattle.session.specs.declared.commands.Reply.{Reply}
use Rattle.session.specs.declared.commands.Reply.TheVariants as reply
use Rattle.session.specs.declared.commands.RunStopped.{RunStopped}

abbrev pub command_said : Command → CommandData
command_said (command.Update u) = ToUpdate (update_data u)
command_said (command.HostFocus focused) = ToHostFocus focused
command_said (command.Query q) = ToQuery q

-- an error is a refusal with the rule that it names, or lack of memory
abbrev pub reply_said : Reply → ReplyData
reply_said reply.Accepted = Accepted
reply_said (reply.Refused e) = option_map_or Refused (fault_of e) OutOfMemory
reply_said (reply.Ids ids) = Answered (answer.Ids ids.items)
reply_said (reply.Text text) = Answered (answer.Text (option_map string_bytes text))
reply_said (reply.Set size position) = Answered (answer.Set size position)
reply_said (reply.Node node) = Answered (answer.Node node)
reply_said (reply.Position position) = Answered (answer.Position position)
reply_said (reply.Indexes usv utf16 line) = Answered (answer.Indexes usv utf16 line)
reply_said reply.NoNode = Answered answer.NoNode
reply_said reply.NotText = Answered answer.NotText

-- the name of the node that a query is about; none for the query about the focus
abbrev pub subject : Query → Option (NodeId × TreeId)
subject (query.Children name) = Some name
subject (query.FollowingSiblings name) = Some name
subject (query.PrecedingSiblings name) = Some name
subject (query.FilteredChildren name filter) = Some name
subject (query.FollowingFiltered name filter) = Some name
subject (query.PrecedingFiltered name filter) = Some name
subject (query.Label name) = Some name
subject (query.Value name) = Some name
subject (query.Set name filter) = Some name
subject (query.Text name) = Some name
subject (query.Hit name point filter) = Some name
subject query.Focus = None
subject (query.Move name at move) = Some name
subject (query.Indexes name at) = Some name
subject (query.RangeText name from to) = Some name

-- the query is about this node of the world
abbrev pub IsAbout : World → FullNodeId → Query → Type 0
IsAbout w id q = option_and_then (node_named w) (subject q) ≡ Some id

-- the reply is the answer to a query about this world
abbrev pub IsAnswer : World → Query → Reply → Type 0
IsAnswer w q r = reply_said r ≡ Answered (answer_of w q)

-- and to one about this node, by whatever name
abbrev pub IsAnswerAt : World → FullNodeId → (NodeId × TreeId → Query) → Reply → Type 0
IsAnswerAt w id asked r = (name : NodeId × TreeId) → node_named w name ≡ Some id → IsAnswer w (asked name) r

-- the reply to the command allocates
abbrev pub TakesMemory : Command → Type 0
TakesMemory (command.Update u) = ⊥
TakesMemory (command.HostFocus focused) = ⊥
TakesMemory (command.Query q) = IsTrue (takes_memory q)

-- the command takes one world to another, these events are reported, and this is the reply; or memory for the reply ran out, and
-- nothing is done
abbrev pub IsStep : World → Command → World → List Event → Result Reply AllocError → Type 0
IsStep old c new told (Ok reply) = Does old (command_said c) new told (reply_said reply)
IsStep old c new told (Err wanting) = (new ≡ old) × (told ≡ []) × TakesMemory c

-- the commands in turn take one world to another, these events are reported, and these are the replies; or memory ran out, and the
-- first of them did so
abbrev pub RunsAs : World → List Command → World → List Event → Result (Vec Reply) RunStopped → Type 0
RunsAs old commands new told (Ok replies) = Runs old (map command_said commands) new told (map reply_said replies.items)
RunsAs old commands new told (Err stopped) =
    RunsUpTo stopped.done old (map command_said commands) new told (map reply_said stopped.replies.items)

-- each session that is alike to this one, and wasn't stopped, has alike replies and reports the same openly
abbrev pub IsAlike : World → List Command → List Event → Result (Vec Reply) RunStopped → Type 0
IsAlike old commands told (Ok replies) = RunsAlike old (map command_said commands) told (map reply_said replies.items)
IsAlike old commands told (Err stopped) = ⊤

-- and so does each that takes a command alike to this one
abbrev pub IsAlikeStep : World → Command → List Event → Result Reply AllocError → Type 0
IsAlikeStep old c told (Ok reply) = RunsAlike old (command_said c ∷ []) told (reply_said reply ∷ [])
IsAlikeStep old c told (Err wanting) = ⊤
