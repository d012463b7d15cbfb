use Rattle.std.proofs.Common.{take, flat_map}
use Rattle.std.specs.Fmt.{HasWritten, IsPlainFormatter}
use Rattle.queries.specs.Messages.{spaced_role}
use Rattle.queries.proofs.error.SpacedRolesDisplay.fmt.Given as goal

-- the roles so far are written
abbrev pub invariant-loop-role : goal.invariant-loop-role
invariant-loop-role g l =
    IsPlainFormatter l.initial.f → HasWritten g.W.Write.write_str_gives l.initial.f (flat_map spaced_role (take l.role-index l.role-items)) l.f
