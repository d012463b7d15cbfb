use Rattle.std.proofs.Common.{take, flat_map}
use Rattle.std.specs.Io.KnownBytes.{Appends}
use Rattle.compare.specs.Rows.{told_piece}
use Rattle.compare.proofs.row.write_fields.Given as goal

-- the fields so far are written
abbrev pub invariant-loop-name : goal.invariant-loop-name
invariant-loop-name g l =
    Appends (g.O.Write.contents l.fn.out) (g.O.Write.contents l.out) (flat_map (λ entry. told_piece l.fn.is_within l.fn.node entry.1) (take l.name-index l.name-items))
