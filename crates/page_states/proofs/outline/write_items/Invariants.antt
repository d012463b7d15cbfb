use Rattle.std.proofs.Common.{take}
use Rattle.std.specs.List.{FoldsTo}
use Rattle.page_states.specs.Rows.{WritesItem}
use Rattle.page_states.proofs.outline.write_items.Given as goal

-- the rows so far are written
abbrev pub invariant-loop-row : goal.invariant-loop-row
invariant-loop-row g l =
    FoldsTo (WritesItem l.fn.number) (0, g.O.Write.contents l.fn.out) (take l.row-index l.rows) (l.lists, g.O.Write.contents l.out)
