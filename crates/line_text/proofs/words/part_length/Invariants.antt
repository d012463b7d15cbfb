use Rattle.std.proofs.Common.{◌≡◌, ◌<◌, ◌==◌, ℕ, false, slice_index_or}
use Rattle.line_text.proofs.words.part_length.Given as goal

-- no byte so far is the mark
abbrev pub invariant-loop-end : goal.invariant-loop-end
invariant-loop-end l = (k : ℕ) → k < l.end → (slice_index_or l.text k 0 == l.mark) ≡ false
