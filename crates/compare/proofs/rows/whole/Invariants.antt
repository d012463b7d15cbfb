use Rattle.std.proofs.Common.{◌≡◌, map, take}
use Rattle.compare.specs.Compared.{text_of}
use Rattle.compare.specs.Rows.{whole}
use Rattle.compare.proofs.rows.whole.Given as goal

-- the rows so far
abbrev pub invariant-loop-row : goal.invariant-loop-row
invariant-loop-row l = l.text.items ≡ whole (map text_of (take l.row-index l.rows))
