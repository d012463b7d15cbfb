-- The positions of a run's characters along it.
use Rattle.std.specs.Prelude.{ℕ, ◌+◌, ◌*◌, ◌^◌, ℤ, pos, neg_ℤ, ◌≤ℤ◌}
use Rattle.model.specs.FlatText.{Metrics as MetricsData, ShownRun, shown_run, needs_masking}
use Rattle.model.specs.TextRuns.{is_password}
use Rattle.texts.specs.declared.metrics.Metrics.{Metrics}
use Rattle.views.specs.declared.runs.Run.{Run}
use Rattle.views.specs.Runs.{run_world, root_id, sent_of}

-- the metrics as the model has them
abbrev pub measures : Metrics → MetricsData
measures m = record { positions = m.positions.now; widths = m.widths.now; are_alike = m.are_alike }

-- the run as its text shows it
abbrev pub shown_in : Run → ShownRun
shown_in r =
    shown_run (run_world r) (root_id r) (is_password (run_world r) (root_id r)) (needs_masking (run_world r) (root_id r)) (sent_of r)

-- a number of a run's metrics, and a difference of two of them
abbrev pub IsMetricStep : ℤ → Type 0
IsMetricStep z = (neg_ℤ (pos (2 ^ 32)) ≤ℤ z) × (z ≤ℤ pos (2 ^ 32))

-- no farther along a run than this many steps and numbers of its metrics
abbrev pub IsAlong : ℕ → ℤ → Type 0
IsAlong n z = (neg_ℤ (pos (2 ^ 96 + 2 ^ 31 * n)) ≤ℤ z) × (z ≤ℤ pos (2 ^ 96 + 2 ^ 31 * n))
