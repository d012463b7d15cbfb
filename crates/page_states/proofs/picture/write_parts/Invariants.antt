use Rattle.std.proofs.Common.{take}
use Rattle.std.specs.List.{FoldsTo}
use Rattle.page_states.specs.Pictures.{WritesPart}
use Rattle.page_states.proofs.picture.write_parts.Given as goal

-- the rows so far are written
abbrev pub invariant-loop-row : goal.invariant-loop-row
invariant-loop-row g l =
    FoldsTo (WritesPart l.fn.number) (0, g.O.Write.contents l.fn.out) (take l.row-index l.rows) (l.groups, g.O.Write.contents l.out)
