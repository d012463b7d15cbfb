use Rattle.std.proofs.Common.{◌≡◌, ◌-◌, ◌^◌}
use Rattle.script_lines.specs.Taking.{failures_of, number_of}
use Rattle.script_lines.proofs.Places.{IsAt}
use Rattle.script_lines.proofs.reader.ScriptReader.read_on.Given as goal

-- lines are passed so far, and the input has not failed
abbrev pub invariant-reading : goal.invariant-reading
invariant-reading g l = IsAt (g.R.Read.remaining l.initial.input) l.initial.self (g.R.Read.remaining l.input) l.self
    × (failures_of l.self ≡ failures_of l.initial.self)

abbrev pub decreases-reading : goal.decreases-reading
decreases-reading g l = 2 ^ 64 - 1 - number_of l.self
