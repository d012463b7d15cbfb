-- Which nodes are announced in place of their runs.
use Rattle.std.specs.Prelude.{Bool, ◌||◌, is_some, is_none, if◌then◌else◌}
use Rattle.schema.specs.NodeData.{NodeData}
use Rattle.model.specs.declared.FullNodeId.{FullNodeId}
use Rattle.model.specs.declared.filters.FilterResult.{FilterResult}
use Rattle.model.specs.declared.filters.FilterResult.TheVariants.{Include, ExcludeNode}
use Rattle.model.specs.Covers.{filtered_parent}
use Rattle.model.specs.RoleClasses.{is_text_input}
use Rattle.model.specs.Upward.{says}
use Rattle.model.specs.World.{World}

-- typing is said for the input, and a value replaces its runs
abbrev pub speaks_for_runs : NodeData → Bool
speaks_for_runs d = is_text_input d.role || is_some d.value

abbrev pub holder_answer : World → FullNodeId → FilterResult
holder_answer w id = if says speaks_for_runs w id then Include else ExcludeNode

-- whether a run is announced itself and not by an ancestor
abbrev pub speaks_itself : World → FullNodeId → Bool
speaks_itself w id = is_none (filtered_parent (holder_answer w) w id)
