use Rattle.std.proofs.Common.{take}
use Rattle.std.specs.Io.KnownBytes.{Appends}
use Rattle.page.specs.States.{items_from}
use Rattle.page.proofs.sections.write_items.Given as goal

-- the items so far are written
abbrev pub invariant-loop-index : goal.invariant-loop-index
invariant-loop-index g l = Appends (g.O.Write.contents l.fn.out) (g.O.Write.contents l.out) (items_from 1 (take l.index l.fn.states))
