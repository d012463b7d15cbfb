use Rattle.std.proofs.Common.{◌≡◌, ◌<◌, ℕ, take}
use Rattle.line_text.specs.Starts.{IsCutAt, spot_after}
use Rattle.line_text.proofs.starts.first_cut.Given as goal

-- no word ends before
abbrev pub invariant-loop-end : goal.invariant-loop-end
invariant-loop-end l = record { spot : l.spot ≡ spot_after (take l.end l.text); before : (k : ℕ) → k < l.end → ¬ (IsCutAt l.text k) }
