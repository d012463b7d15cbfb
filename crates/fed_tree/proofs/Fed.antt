-- Lines that are fed, by what became of the commands that they say.
use Rattle.std.proofs.Common.{◌≡◌, ℕ, List, Result, Ok, Err, inr}
use Rattle.script_lines.specs.declared.reader.ScriptCommand.{ScriptCommand}
use Rattle.fed_tree.specs.Fed.{Fed}
use Rattle.fed_tree.specs.Feeding.{Say, CarriesOutAll, Feeds, stage_of}
use Rattle.fed_tree.specs.declared.feeding.FeedError.{FeedError}
use Rattle.fed_tree.specs.declared.feeding.FeedError.TheVariants as feed

pub feeds : (old new : Fed) (lines : List ℕ) (commands : List ScriptCommand) (result : Result Unit FeedError)
    → Say lines commands → CarriesOutAll (stage_of old) commands result (stage_of new) new.events → new.begun ≡ old.begun → Feeds old lines result new
feeds old new lines commands (Ok done) say all kept = (commands, say, all, kept)
feeds old new lines commands (Err (feed.BadLine number)) say all kept = absurd all.ended
feeds old new lines commands (Err (feed.Refused count why)) say all kept = (commands, say, all, kept)
feeds old new lines commands (Err (feed.Memory count)) say all kept = inr (commands, say, all, kept)
