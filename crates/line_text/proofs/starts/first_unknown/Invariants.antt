use Rattle.std.proofs.Common.{◌≡◌, ◌<◌, ℕ, take}
use Rattle.line_text.specs.Starts.{IsUnknownAt, is_among, spot_after}
use Rattle.line_text.proofs.starts.first_unknown.Given as goal

-- no word that begins before has an unknown name
abbrev pub invariant-loop-start : goal.invariant-loop-start
invariant-loop-start l = record { spot : l.spot ≡ spot_after (take l.start l.text); before : (k : ℕ) → k < l.start → ¬ (IsUnknownAt (is_among l.names) l.text k) }
