-- Runs at a point.
use Rattle.std.specs.Prelude.{ℕ, ◌^◌, ℤ, pos, neg_ℤ, ◌≤ℤ◌, Bool, length, Option}
use Rattle.schema.specs.declared.geometry.Point.{Point}
use Rattle.model.specs.FlatText.{ShownRun, last_run, run_has}
use Rattle.model.specs.Points.{is_in_run, is_past}
use Rattle.views.specs.declared.node.node_ref.NodeRef.{NodeRef}
use Rattle.texts.specs.declared.points.PointTest.{PointTest}
use Rattle.texts.specs.declared.points.PointTest.TheVariants.{Inside, Past}
use Rattle.texts.specs.Positions.{node_text}

-- the test of a run and a point
abbrev pub passes : PointTest → Point → ShownRun → Bool
passes Inside point = is_in_run point
passes Past point = is_past point

-- the last run of the root's text that passes
abbrev pub last_passing : NodeRef → PointTest → Point → Option ℕ
last_passing n test point = last_run (node_text n) (length (node_text n)) (run_has (passes test point) (node_text n))

-- a coordinate minus a translation
abbrev pub IsSeen : ℤ → Type 0
IsSeen z = (neg_ℤ (pos (2 ^ 96)) ≤ℤ z) × (z ≤ℤ pos (2 ^ 96))
