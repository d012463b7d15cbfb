use Rattle.compare.proofs.Cutting.{IsReading}
use Rattle.compare.proofs.parts.read_first.Given as goal

-- no border is read so far
abbrev pub invariant-loop : goal.invariant-loop
invariant-loop g l = IsReading (g.R.Read.remaining l.fn.input) (g.R.Read.remaining l.input) l.first.items
