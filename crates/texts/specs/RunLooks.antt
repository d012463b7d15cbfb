-- The style of a position's run.
use Rattle.std.specs.Prelude.{Option}
use Rattle.schema.specs.NodeData.{NodeData}
use Rattle.model.specs.Upward.{inherited_field}
use Rattle.texts.specs.declared.position.TextPosition.{TextPosition}
use Rattle.views.specs.Runs.{run_world, run_id}

-- the field of the nearest node, from the position's run upwards, that has it
abbrev pub run_inherits : {A : Type 0} → (NodeData → Option A) → TextPosition → Option A
run_inherits field p = inherited_field field (run_world p.run) (run_id p.run)
