use Rattle.std.proofs.Common.{take, flat_map}
use Rattle.std.specs.Fmt.{HasWritten, IsPlainFormatter}
use Rattle.queries.specs.Messages.{spaced_label}
use Rattle.queries.proofs.error.SpacedLabelsDisplay.fmt.Given as goal

-- the labels so far are written
abbrev pub invariant-loop-label : goal.invariant-loop-label
invariant-loop-label g l =
    IsPlainFormatter l.initial.f → HasWritten g.W.Write.write_str_gives l.initial.f (flat_map spaced_label (take l.label-index l.label-items)) l.f
