use Rattle.std.proofs.Common.{take, flat_map}
use Rattle.std.specs.Fmt.{HasWritten, IsPlainFormatter}
use Rattle.std.specs.Fmt.{decimal}
use Rattle.script_words.specs.Items.{comma_then}
use Rattle.script_words.proofs.write_parts.MoreNumbersDisplay.fmt.Given as goal

-- the items so far are written
abbrev pub invariant-loop-item : goal.invariant-loop-item
invariant-loop-item g l =
    IsPlainFormatter l.initial.f → HasWritten g.W.Write.write_str_gives l.initial.f (flat_map (comma_then decimal) (take l.item-index l.item-items)) l.f
