use Rattle.std.proofs.Common.{◌≡◌, ◌<◌, ℕ, false, slice_index_or}
use Rattle.line_text.specs.Starts.{ends_name}
use Rattle.line_text.proofs.starts.name_length.Given as goal

-- no byte so far ends the name
abbrev pub invariant-loop-end : goal.invariant-loop-end
invariant-loop-end l = (k : ℕ) → k < l.end → ends_name (slice_index_or l.text k 0) ≡ false
