-- Definitions, tried by themselves.
use Rattle.std.specs.Prelude.{◌≡◌, pos, true, false, nat_eq, [], ◌∷◌, Some, None}
use Rattle.schema.specs.NodeData.{NodeData, empty_node}
use Rattle.schema.specs.declared.Role.TheVariants.{TextRun}
use Rattle.model.specs.World.{World, data_of}
use Rattle.model.specs.declared.FullNodeId.{FullNodeId}
use Rattle.model.specs.declared.filters.FilterResult.TheVariants.{ExcludeSubtree}
use Rattle.model.specs.Labels.{label_filter}
use Rattle.model.specs.Examples.{at}
use Rattle.model.specs.FlatText.{are_alike, metrics_of}
use Rattle.model.specs.FullIds.{full_number}
use Rattle.model.specs.TextRuns.{is_enough}
use Rattle.model.specs.Upward.{is_root}

abbrev pub RootIsOfTheRootTree : Type 0
RootIsOfTheRootTree = (w : World) (id : FullNodeId) → is_root w id ≡ true → id.tree ≡ 0

pub record CountsAreEnough : Type 0 where
  pub as_many : is_enough false 2 2 ≡ true
  pub more : is_enough false 2 3 ≡ false
  pub fewer : is_enough false 2 1 ≡ false
  pub more_of_password : is_enough true 2 3 ≡ false
  pub one_of_password : is_enough true 2 1 ≡ true
  pub none_of_password : is_enough true 2 0 ≡ false

pub record ListsAreAlike : Type 0 where
  pub last_differs : are_alike nat_eq (1 ∷ 1 ∷ 2 ∷ []) ≡ false
  pub alike : are_alike nat_eq (1 ∷ 1 ∷ 1 ∷ []) ≡ true

-- a run of two characters, each of which has a place and a width
abbrev pub measured : NodeData
measured = record (empty_node TextRun) { character_positions = Some (pos 0 ∷ pos 4 ∷ []); character_widths = Some (pos 4 ∷ pos 6 ∷ []) }

pub record PasswordsAreMeasuredAlike : Type 0 where
  pub password : metrics_of true measured ≡ Some (record { positions = pos 0 ∷ pos 4 ∷ []; widths = pos 4 ∷ pos 6 ∷ []; are_alike = true })
  pub plain : metrics_of false measured ≡ Some (record { positions = pos 0 ∷ pos 4 ∷ []; widths = pos 4 ∷ pos 6 ∷ []; are_alike = false })

-- a node that isn't there is cut off from labels
abbrev pub AbsentNodeIsCutOff : Type 0
AbsentNodeIsCutOff = (w : World) (id : FullNodeId) → data_of w id ≡ None → label_filter w id ≡ ExcludeSubtree

-- a node's number is above its tree's index
abbrev pub NodeIsAboveItsTree : Type 0
NodeIsAboveItsTree = full_number (at 1 2) ≡ 36893488147419103233
