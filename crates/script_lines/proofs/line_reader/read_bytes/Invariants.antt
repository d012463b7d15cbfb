use Rattle.std.proofs.Common.{◌≡◌, ◌≢◌, ◌-◌, ◌^◌, ◌≤◌, All}
use Rattle.std.specs.Io.KnownBytes.{Consumes}
use Rattle.script_lines.proofs.line_reader.read_bytes.Given as goal

-- the bytes so far came from the input, and none of them is a newline; it has not failed
abbrev pub invariant-looking : goal.invariant-looking
invariant-looking g l = Consumes (g.R.Read.remaining l.initial.input) (g.R.Read.remaining l.input) l.bytes.items × All (λ byte. byte ≢ 10) l.bytes.items
    × (l.looks.failures ≡ l.initial.looks.failures) × (l.looks.count ≤ 2 ^ 64 - 1)

abbrev pub decreases-looking : goal.decreases-looking
decreases-looking g l = 2 ^ 64 - 1 - l.looks.count
