use Rattle.std.proofs.Common.{◌≡◌, ◌+◌, ◌≤◌, take}
use Rattle.line_text.specs.Columns.{column_after}
use Rattle.line_text.proofs.columns.column_after.Given as goal

-- the column after the bytes so far
abbrev pub invariant-loop-byte : goal.invariant-loop-byte
invariant-loop-byte l = record { counted : l.column ≡ column_after (take l.byte-index l.before); bound : l.column ≤ l.byte-index + 1 }
