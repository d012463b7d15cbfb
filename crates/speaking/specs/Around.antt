-- What is said of the nearest node of a kind above the focus, where the focus enters it.
use Rattle.std.specs.Prelude.{Bool, false, Option, Some, None, if◌then◌else◌}
use Rattle.std.specs.Option.{option_map_or}
use Rattle.schema.specs.NodeData.{NodeData}
use Rattle.model.specs.declared.FullNodeId.{FullNodeId}
use Rattle.model.specs.declared.filters.FilterResult.{FilterResult}
use Rattle.model.specs.declared.filters.FilterResult.TheVariants.{Include, ExcludeNode}
use Rattle.model.specs.Covers.{filtered_parent}
use Rattle.model.specs.Events.{Seen}
use Rattle.model.specs.Upward.{says, is_within}
use Rattle.model.specs.World.{World}
use Rattle.phrases.specs.Voices.{Speech}

-- the filter that includes nodes of this kind
abbrev pub around_answer : (NodeData → Bool) → World → FullNodeId → FilterResult
around_answer kind w id = if says kind w id then Include else ExcludeNode

-- the nearest such node above a node
abbrev pub around : (NodeData → Bool) → World → FullNodeId → Option FullNodeId
around kind w id = filtered_parent (around_answer kind w) w id

-- the old focus was this node, or in it
abbrev pub was_in : Option Seen → FullNodeId → Bool
was_in None top = false
was_in (Some old) top = is_within old.world top old.id

-- what is said of the nearest such node, if the old focus wasn't in it
abbrev pub entered_said : (NodeData → Bool) → (World → FullNodeId → Speech → Speech) → Option Seen → Seen → Speech → Speech
entered_said kind line old new v =
    option_map_or (λ top. if was_in old top then v else line new.world top v) (around kind new.world new.id) v
