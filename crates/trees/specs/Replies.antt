-- The reply to an update.
use Rattle.std.specs.Prelude.{Result, Ok, Err}
use Rattle.std.specs.Option.{option_map_or}
use Rattle.model.specs.Run.{ReplyData, Accepted, Refused, OutOfMemory}
use Rattle.tree_changes.specs.declared.error.UpdateError.{UpdateError}
use Rattle.tree_changes.specs.Refusals.{fault_of}

-- an error is a refusal with the rule that it names, or lack of memory
abbrev pub reply_of : Result (Unit {0}) UpdateError → ReplyData
reply_of (Ok done) = Accepted
reply_of (Err e) = option_map_or Refused (fault_of e) OutOfMemory
